pub mod Words
mod orders
mod progress
