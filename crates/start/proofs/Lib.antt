pub mod Turning
pub mod Begun
