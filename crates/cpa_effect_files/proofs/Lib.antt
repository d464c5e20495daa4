pub mod KeyLaws
pub mod ReadingLaws
pub mod PlanLaws
pub mod PrintedLaws
