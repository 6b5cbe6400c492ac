pub mod Layers
pub mod Turns
