pub mod Blocks
pub mod Diagram
pub mod Ends
pub mod Held
pub mod Rulings
