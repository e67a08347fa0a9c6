pub mod Outruns
