pub mod LeastTwo
pub mod Found
pub mod Turned
