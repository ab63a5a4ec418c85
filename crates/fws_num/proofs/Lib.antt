pub mod Decimals
pub mod Divided
pub mod Masks
pub mod Quads
pub mod Reading
pub mod Spelled
pub mod Splitting
pub mod Writing
