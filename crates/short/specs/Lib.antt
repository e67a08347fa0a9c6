pub mod Short
pub mod Flips
