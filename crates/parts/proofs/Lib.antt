pub mod Joined
pub mod ClosingRun
pub mod Promises
