pub mod Pushed
pub mod Holding
pub mod Runs
pub mod Lawful
