pub mod Words
mod Cutting
mod RowLemmas
mod StoreLemmas
mod FaultLemmas
mod Applied
mod Journals
mod Recovered
pub mod RunLemmas
mod StoppedRuns
mod StubLemmas
mod BatchLemmas
mod EntryLemmas
mod FileLemmas
mod Parcels
mod Leaving
mod Example
mod OpenedFiles
