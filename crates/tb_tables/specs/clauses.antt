-- What clauses of public functions cite besides the claim.
pub mod Counts
pub mod Conditions
pub mod History
pub mod Lawful
pub mod Changes
pub mod Sums
pub mod Expiries
pub mod Contents
pub mod Fields
pub mod Balances
pub mod Indices
pub mod Status
