pub mod Words
pub mod Ahead
pub mod Opened
mod Pulsed
mod Refused
mod Results
mod Seen
