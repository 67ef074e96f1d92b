pub mod Tables
mod Shorthand
mod Scripts
mod Examples
mod Transcripts
mod LossTranscripts
mod ClosingTranscripts
mod ForgedTranscripts
mod VersionTranscripts
mod LongTranscripts
