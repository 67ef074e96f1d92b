pub mod Values
pub mod Lent
pub mod Refused
pub mod Reads
pub mod Stops
