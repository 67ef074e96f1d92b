pub mod Keyed
pub mod Index
pub mod Kept
pub mod Copies
pub mod Stands
pub mod Applied
