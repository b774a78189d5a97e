pub mod OneStretch
pub mod Places
