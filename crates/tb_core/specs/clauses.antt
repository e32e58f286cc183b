-- What clauses of public functions cite besides the claim.
pub mod BadRuns
pub mod Taking
pub mod Alone
