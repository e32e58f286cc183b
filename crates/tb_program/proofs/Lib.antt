pub mod Words
mod Answered
mod HandedPackets
mod Lacking
mod Noting
mod Packets
mod Planning
mod Pulses
mod RefusalReasons
mod Sharing
mod Sending
pub mod Whole
