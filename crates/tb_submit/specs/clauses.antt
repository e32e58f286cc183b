-- What clauses of public functions cite besides the claim.
pub mod Rule
pub mod Lists
pub mod Ends
pub mod Refusals
pub mod State
