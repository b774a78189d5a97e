pub mod Following
pub mod Looking
