pub mod Over
pub mod Spots
pub mod Contents
pub mod Words
