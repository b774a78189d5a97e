pub mod Period
pub mod Places
