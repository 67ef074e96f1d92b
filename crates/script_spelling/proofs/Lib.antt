pub mod Pieces
pub mod Digits
pub mod Spelling
pub mod HexBytes
