pub mod Edges
pub mod RoleWords
pub mod Walk
pub mod Pairing
pub mod Choices
pub mod ArmRows
