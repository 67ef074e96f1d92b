mod Handles
pub mod Stops
mod Tables
pub mod Loops
mod Collecting
mod Names
mod CallSteps
