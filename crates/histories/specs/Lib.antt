pub mod History
pub mod Worst
pub mod Grid
