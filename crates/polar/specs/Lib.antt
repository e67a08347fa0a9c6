pub mod Bits
pub mod Transform
pub mod Matrix
pub mod Soft
pub mod Shown
pub mod Value
pub mod Node
pub mod Layers
