pub mod Judged
pub mod Cleared
pub mod Readied
pub mod Decided
pub mod Whole
