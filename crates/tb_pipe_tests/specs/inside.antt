-- What only proofs, private functions and invariants need.
pub mod OnePacket
pub mod Queue
pub mod Together
