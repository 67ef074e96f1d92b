pub mod Stands
pub mod Ticking
pub mod Calling
