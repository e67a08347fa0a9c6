pub mod Clean
pub mod Calls
