pub mod Tables
pub mod Headings
pub mod Growing
