pub mod Blocks
pub mod Diagram
pub mod Placed
