pub mod Replies
pub mod Cases
