pub mod Ends
pub mod Open
mod Pipes
