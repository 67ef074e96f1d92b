mod Steps
mod Words
mod Histories
pub mod Names
pub mod KeepsSteps
mod HeadSteps
