-- What clauses of public functions cite besides the claim.
pub mod Cutting
pub mod Remaining
