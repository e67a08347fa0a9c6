pub mod Said
pub mod Walked
