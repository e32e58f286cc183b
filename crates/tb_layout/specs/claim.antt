-- What the headline, the report, the run and the recovery mean.
pub mod Limits
pub mod Bytes
pub mod Account
pub mod AccountCode
pub mod Transfer
pub mod TransferCode
pub mod Events
pub mod Failures
pub mod BytesOfNumbers
pub mod EventCounts
pub mod FailureRoom
pub mod Bounds
