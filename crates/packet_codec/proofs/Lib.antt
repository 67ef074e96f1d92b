mod ContentEnd
pub mod Puts
mod Encoded
mod Loops
mod Stopping
