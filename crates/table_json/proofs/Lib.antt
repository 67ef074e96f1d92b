pub mod Lent
pub mod JsonText
pub mod Pieces
pub mod Behind
pub mod Paths
