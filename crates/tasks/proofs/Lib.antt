pub mod JobTimes
pub mod TableCurve
pub mod WordWalks
