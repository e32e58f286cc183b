-- What clauses of public functions cite besides the claim.
pub mod Counts
pub mod Counted
pub mod Retries
