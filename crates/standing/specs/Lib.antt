pub mod Seen
pub mod Standing
