pub mod Sampled
pub mod Tallied
