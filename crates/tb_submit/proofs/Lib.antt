pub mod Words
pub mod QueuedItems
pub mod DrainedQueue
pub mod RuleSteps
pub mod Learning
pub mod OpenedSubmitters
pub mod SubmitterCounts
pub mod ReplyRefusals
mod SubmitRefusals
