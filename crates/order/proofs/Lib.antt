pub mod Digits
pub mod Queues
