pub mod Blocks
pub mod Diagram
pub mod Fitting
pub mod Placed
pub mod Translating
