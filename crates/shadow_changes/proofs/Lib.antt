pub mod Ranges
pub mod Ascending
pub mod Putting
pub mod Falling
pub mod Writing
pub mod Steps
pub mod Actors
