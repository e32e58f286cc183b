pub mod claim
pub mod clauses
