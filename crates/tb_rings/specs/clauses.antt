-- What clauses of public functions cite besides the claim.
pub mod Ends
pub mod Waking
