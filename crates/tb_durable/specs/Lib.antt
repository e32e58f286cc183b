pub mod claim
pub mod clauses
pub mod inside
