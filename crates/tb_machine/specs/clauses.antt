-- What clauses of public functions cite besides the claim.
pub mod Joining
pub mod Invariant
pub mod Accounts
