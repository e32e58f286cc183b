-- What only proofs, private functions and invariants need.
pub mod Tally
