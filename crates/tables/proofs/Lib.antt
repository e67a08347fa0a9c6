pub mod Xor
pub mod Spread
pub mod Advance
pub mod Bounds
