pub mod HexText
pub mod Naming
pub mod AfterWords
