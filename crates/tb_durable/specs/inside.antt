-- What only proofs, private functions and invariants need.
pub mod Storing
