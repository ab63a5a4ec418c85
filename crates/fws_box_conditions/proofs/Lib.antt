pub mod Areas
pub mod Blocks
pub mod Counting
pub mod Dividing
pub mod Routing
pub mod Showing
pub mod Values
