pub mod Reads
pub mod TableLimits
pub mod Values
