pub mod Layout
pub mod Pieces
pub mod Grids
pub mod Meanings
