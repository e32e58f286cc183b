mod Waking
