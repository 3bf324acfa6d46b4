pub mod Selectors
pub mod Layers
pub mod TreeLayers
pub mod StatementLayers
pub mod Extensions
pub mod Turns
