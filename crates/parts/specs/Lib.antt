pub mod Upload
pub mod Run
