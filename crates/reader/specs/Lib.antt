pub mod Arrays
pub mod Paths
pub mod Reader
pub mod Reached
pub mod Fit
pub mod Moments
pub mod Agree
