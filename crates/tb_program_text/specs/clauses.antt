-- What clauses of public functions cite besides the claim.
pub mod Fault
pub mod Steps
pub mod Text
pub mod Number
pub mod Keyword
pub mod Event
pub mod Script
pub mod Parsing
pub mod Spelling
pub mod Laws
pub mod Output
pub mod Naming
pub mod Source
pub mod Request
pub mod Ending
