pub mod Code
pub mod Record
pub mod Calls
pub mod Numbers
pub mod Testing
pub mod Ties
pub mod Tabled
