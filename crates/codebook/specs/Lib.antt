pub mod Refusals
pub mod Book
pub mod Loading
pub mod Limits
pub mod Written
pub mod Tables
pub mod Progress
