pub mod Tabled
pub mod Judging
pub mod ReadableTask
