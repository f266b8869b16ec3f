pub mod Appending
pub mod AskedLaws
pub mod BodyHolding
pub mod BodyLines
pub mod Cutting
pub mod EvaluationLaws
mod Examples
mod ReplyExamples
pub mod Feeds
pub mod Holding
pub mod KeepingRequests
pub mod LineLists
pub mod Lines
pub mod MergeLaws
pub mod MergedLaws
mod OneOpening
pub mod OpenLaws
pub mod PlainLines
pub mod Outcomes
pub mod Replying
pub mod RunSteps
pub mod TakingBody
pub mod Spelling
pub mod Answered
pub mod Taking
pub mod Texts
pub mod UnfedRequests
pub mod Unread
pub mod FirstLines
