pub mod Marking
pub mod MarkToMark
pub mod Narrowing
pub mod Once
pub mod Periods
