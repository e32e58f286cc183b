pub mod clauses
pub mod inside
pub use Rattle.tb_core.specs.claim.Front
pub use Rattle.tb_core.specs.claim.Ledger
pub use Rattle.tb_core.specs.claim.EndedRun
pub use Rattle.tb_core.specs.claim.Report
pub use Rattle.tb_core.specs.claim.TwoRuns
