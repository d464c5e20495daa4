pub mod SearchLaws
pub mod BoundLaws
pub mod DeadlineLaws
pub mod NumberLaws
pub mod PlaceLaws
pub mod SetLaws
