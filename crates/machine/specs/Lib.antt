pub mod Choice
pub mod Words
pub mod Machine
pub mod Calls
pub mod Numbers
pub mod Rows
pub mod Table
