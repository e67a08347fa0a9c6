pub mod Tails
pub mod Crowds
pub mod Forks
pub mod Nexts
pub mod Commits
