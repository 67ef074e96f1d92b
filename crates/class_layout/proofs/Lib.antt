mod Answered
mod ClassSteps
mod Few
pub mod Finding
mod Growing
pub mod InMemory
pub mod InitialValues
mod Naming
mod Parents
mod PathSteps
mod Segments
mod SoFar
