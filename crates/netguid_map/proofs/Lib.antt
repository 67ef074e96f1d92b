pub mod Needed
pub mod Upwards
pub mod Searching
pub mod Within
