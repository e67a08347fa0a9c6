pub mod Run
pub mod Queue
pub mod Rows
