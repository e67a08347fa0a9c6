pub mod Over
pub mod Growing
pub mod Verdicts
