-- What the headline, the report, the run and the recovery mean.
pub mod Rows
pub mod Durable
pub mod Recovery
