pub mod Words
pub mod Faults
pub mod Failures
pub mod FirstChain
mod StoredEvents
pub mod Joined
mod Examples
