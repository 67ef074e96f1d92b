pub mod Packed
pub mod IntWidth
pub mod Parts
pub mod Fields
