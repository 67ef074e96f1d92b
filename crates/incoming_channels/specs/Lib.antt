pub mod Channels
pub mod Keeps
pub mod Messages
pub mod Steps
