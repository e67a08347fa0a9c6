pub mod Words
pub mod Queue
pub mod Path
pub mod Turn
pub mod Run
pub mod Calls
pub mod Example
