mod TrackingLaws
mod PlanLaws
mod ReadLaws
mod RowLaws
mod WrittenLaws
