pub mod Words
pub mod Lists
mod Late
pub mod Batches
pub mod Commits
pub mod Drained
pub mod Fresh
pub mod Origins
mod Cleared
mod Control
mod Settled
