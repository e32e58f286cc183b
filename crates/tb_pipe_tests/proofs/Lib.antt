pub mod OnePacket
pub mod Reading
pub mod Submitters
pub mod Together
