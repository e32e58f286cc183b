pub mod clauses
pub mod inside
