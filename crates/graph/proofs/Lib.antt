pub mod ArmWords
pub mod WordRules
pub mod Closing
pub mod Shut
pub mod Taken
