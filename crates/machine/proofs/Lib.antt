pub mod Computing
pub mod Unbarred
pub mod Called
pub mod Numbers
pub mod Table
