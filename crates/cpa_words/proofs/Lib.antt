pub mod Turns
pub mod ReadWords
pub mod SortedLaws
pub mod WithinLaws
