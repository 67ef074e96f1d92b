pub mod Turning
pub mod Calling
pub mod Updating
pub mod Opening
pub mod Ticking
