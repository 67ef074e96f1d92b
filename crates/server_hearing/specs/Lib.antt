pub mod Calls
pub mod Payloads
pub mod Entries
pub mod Datagrams
