pub mod Checked
pub mod Objects
pub mod Sizes
pub mod Words
pub mod Rules
pub mod Grammar
pub mod Facts
pub mod BuiltInFile
