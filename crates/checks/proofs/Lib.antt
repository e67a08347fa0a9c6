pub mod Admitted
pub mod Valued
