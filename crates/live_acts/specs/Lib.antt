pub mod Acts
pub mod Performed
pub mod Refused
pub mod Stopped
