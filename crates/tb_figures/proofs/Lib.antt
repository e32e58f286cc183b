pub mod Words
mod CountLemmas
mod LedgerLemmas
mod RetryLemmas
