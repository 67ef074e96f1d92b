mod Members
pub mod Counts
