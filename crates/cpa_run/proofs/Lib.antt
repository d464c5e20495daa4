pub mod BufferLaws
pub mod GrowthLaws
pub mod MadeLaws
pub mod OutputLaws
pub mod PlanLaws
pub mod PlannedLaws
pub mod ReportLaws
pub mod SessionLaws
