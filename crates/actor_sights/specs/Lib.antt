pub mod Visible
pub mod Sampled
