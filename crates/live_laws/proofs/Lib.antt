pub mod Begins
pub mod Parts
pub mod ServerTurns
pub mod CallerTurns
pub mod CallerParts
pub mod SentOn
