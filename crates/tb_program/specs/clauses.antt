-- What clauses of public functions cite besides the claim.
pub mod Plan
pub mod Listing
pub mod Sharing
pub mod Operations
pub mod Noting
pub mod RunText
