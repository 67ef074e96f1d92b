pub mod Capped
pub mod Fields
pub mod Shapes
pub mod Words
pub mod Reading
pub mod SpelledBy
