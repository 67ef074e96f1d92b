pub mod Caller
pub mod Handshake
pub mod Outside
pub mod Promises
pub mod Runs
pub mod Server
