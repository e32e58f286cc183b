pub mod Words
pub mod FrontDecisions
pub mod TicketDecisions
pub mod Bodies
mod PacketAnswers
mod JoinedBatch
mod Batches
mod RecordedBatch
mod OneMoreEntry
pub mod Since
pub mod LedgerSteps
mod JournalGroups
mod Alone
pub mod Runs
pub mod Packets
pub mod HeadlineLemmas
mod EachSubmitter
mod BadRuns
mod TwoRuns
mod ItemList
mod Examples
