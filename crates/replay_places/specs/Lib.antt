pub mod Places
pub mod Doing
