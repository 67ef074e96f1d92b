pub mod Learning
pub mod Messages
pub mod Readings
