pub mod Stands
pub mod Calls
pub mod Hearing
pub mod Ticks
