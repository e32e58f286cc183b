-- What only proofs, private functions and invariants need.
pub mod Faults
pub mod Drivers
pub mod Answering
pub mod Lacking
