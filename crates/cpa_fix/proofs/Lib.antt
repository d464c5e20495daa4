pub mod DependLaws
pub mod ReadingLaws
pub mod RoundLaws
pub mod SolveLaws
