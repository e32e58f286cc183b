-- What only proofs, private functions and invariants need.
pub mod First
pub mod Ready
