pub mod PlanLaws
pub mod SendLaws
pub mod CallLaws
