pub mod Noted
pub mod Graves
pub mod Looking
