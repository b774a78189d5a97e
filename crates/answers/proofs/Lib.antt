pub mod Lent
pub mod OneTask
