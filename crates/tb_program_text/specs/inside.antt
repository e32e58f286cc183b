-- What only proofs, private functions and invariants need.
pub mod FirstWord
pub mod Fields
pub mod UsualLine
