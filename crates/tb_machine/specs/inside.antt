-- What only proofs, private functions and invariants need.
pub mod Prefetch
pub mod Examining
pub mod Faults
pub mod Committing
