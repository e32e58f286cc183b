-- What clauses of public functions cite besides the claim.
pub mod Carried
pub mod Outlets
pub mod Stages
pub mod Run
pub mod Reported
pub mod QueuedAhead
