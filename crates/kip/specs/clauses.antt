-- What clauses of public functions cite besides the claim.
pub mod EnginePointer
pub mod Entries
pub mod Handle
pub mod Results
