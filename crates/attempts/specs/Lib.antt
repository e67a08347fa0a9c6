pub mod Reading
pub mod Attempt
pub mod WholeRun
