pub mod Slices
pub mod Numbers
