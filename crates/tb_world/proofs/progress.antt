pub mod Steps
pub mod Rests
pub mod Rounds
pub mod Finish
pub mod Credit
