pub mod Kepts
