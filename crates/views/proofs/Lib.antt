pub mod Seeing
pub mod Down
pub mod Inside
pub mod Joining
pub mod Committing
