pub mod Spots
pub mod Standings
pub mod Graph
pub mod Turns
