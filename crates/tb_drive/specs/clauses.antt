-- What clauses of public functions cite besides the claim.
pub mod Actions
pub mod Ahead
pub mod Plan
pub mod Refusing
pub mod Tasks
pub mod Seen
pub mod Threads
