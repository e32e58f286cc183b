-- What only proofs, private functions and invariants need.
pub mod Columns
pub mod Changing
pub mod Hashing
pub mod Expiring
