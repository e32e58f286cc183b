-- What clauses of public functions cite besides the claim.
pub mod Desk
