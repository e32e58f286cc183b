-- What the headline, the report, the run and the recovery mean.
pub mod Checks
pub mod AccountVerdict
pub mod TransferVerdict
pub mod Chain
pub mod Operations
pub mod Replay
pub mod AnswerAt
