pub mod Charts
pub mod Figured
pub mod Sheets
pub mod Tables
