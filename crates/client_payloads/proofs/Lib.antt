mod ExportSteps
pub mod Knowing
mod PayloadSteps
mod Tables
