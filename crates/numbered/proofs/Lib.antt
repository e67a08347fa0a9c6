pub mod Answered
pub mod Fields
