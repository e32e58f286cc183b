-- What clauses of public functions cite besides the claim.
pub mod Faults
pub mod Runs
pub mod Counts
pub mod Entries
pub mod Parcels
pub mod Opened
