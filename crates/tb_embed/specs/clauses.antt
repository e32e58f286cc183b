-- What clauses of public functions cite besides the claim.
pub mod AnyEngine
pub mod Engine
pub mod Queued
pub mod Recorded
pub mod Restoring
