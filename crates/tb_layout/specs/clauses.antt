-- What clauses of public functions cite besides the claim.
pub mod Failure
pub mod Codes
pub mod AccountCodes
pub mod TransferCodes
pub mod Records
pub mod Operations
