pub mod Asking
pub mod Finding
pub mod Heard
pub mod Promises
