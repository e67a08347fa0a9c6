pub mod Sides
pub mod Dismissals
pub mod Onward
pub mod Losses
