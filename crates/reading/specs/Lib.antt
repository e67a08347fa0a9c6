pub mod Running
pub mod Ending
pub mod Before
pub mod Turning
