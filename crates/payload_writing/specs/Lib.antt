pub mod Values
pub mod Exports
pub mod Room
