-- What the headline, the report, the run and the recovery mean.
pub mod Grouping
pub mod Batch
