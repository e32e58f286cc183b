-- What clauses of public functions cite besides the claim.
pub mod Pushing
pub mod Mailbox
pub mod World
pub mod EveryOrder
pub mod Progress
