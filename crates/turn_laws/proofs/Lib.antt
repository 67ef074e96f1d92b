pub mod Sorting
pub mod Untouched
pub mod Serving
pub mod Closed
pub mod Stepping
mod Examples
