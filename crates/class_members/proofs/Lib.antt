mod ArgKinds
pub mod Each
mod Naming
