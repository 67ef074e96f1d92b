pub mod Holders
pub mod Receiving
pub mod Readings
