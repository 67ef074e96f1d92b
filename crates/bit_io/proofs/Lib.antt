mod Steps
mod EightBytes
pub mod Places
mod PutSteps
mod PackedWords
mod WidthSteps
