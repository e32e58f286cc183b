pub mod Words
mod Values
mod AsBox
mod Refused
mod Written
