-- What only proofs, private functions and invariants need.
pub mod Unread
pub mod Waiting
