-- What the headline, the report, the run and the recovery mean.
pub mod Due
pub mod Journal
pub mod EndedRun
pub mod Report
pub mod Headline
pub mod EachSubmitter
pub mod TwoRuns
pub mod Front
pub mod Grouping
pub mod Ledger
pub mod Run
pub mod BareLedger
pub mod AnyLedger
pub mod Decision
