pub mod SumLaws
pub mod CoverLaws
pub mod WiderLaws
pub mod PlainLaws
pub mod BoundLaws
mod WorkedCases
pub mod RangeLaws
pub mod OffLaws
pub mod AddedLaws
pub mod ListLaws
pub mod FreeLaws
pub mod OtherClocks
pub mod GatheredLaws
