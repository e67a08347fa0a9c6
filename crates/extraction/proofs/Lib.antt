pub mod Counts
pub mod Seconds
pub mod Moves
pub mod Keeping
pub mod Extracts
