pub mod Extracted
pub mod Shown
pub mod Stepped
