pub mod UpToLaws
pub mod PhaseLaws
pub mod MomentLaws
pub mod CandidateLaws
pub mod WorkLaws
pub mod RangeLaws
pub mod SentLaws
mod WorkedCases
pub mod KnownLaws
