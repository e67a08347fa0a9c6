pub mod Lists
pub mod Sets
pub mod Pairs
pub mod Removes
