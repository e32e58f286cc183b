-- What the headline, the report, the run and the recovery mean.
pub mod Admission
pub mod Packet
pub mod Job
pub mod Answer
pub mod Ahead
pub mod Queue
