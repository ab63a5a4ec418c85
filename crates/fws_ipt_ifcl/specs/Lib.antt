pub mod Blocks
pub mod Diagram
pub mod Fitting
pub mod Kept
pub mod Placed
