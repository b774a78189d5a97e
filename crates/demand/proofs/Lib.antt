pub mod TableDemand
pub mod Totals
