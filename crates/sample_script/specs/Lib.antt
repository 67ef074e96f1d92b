pub mod SampleScript
pub mod Writes
