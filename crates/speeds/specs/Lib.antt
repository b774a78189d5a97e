pub mod Covering
pub mod Calls
