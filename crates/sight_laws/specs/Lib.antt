pub mod Sights
pub mod Differing
