pub mod Octets
pub mod Classes
pub mod LeastKey
pub mod Leads
pub mod Weights
pub mod Answers
