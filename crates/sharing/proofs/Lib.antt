pub mod Tables
pub mod Choice
pub mod Counting
pub mod Vacant
