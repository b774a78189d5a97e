pub mod Marks
pub mod Searched
