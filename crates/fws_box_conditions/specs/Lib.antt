pub mod Areas
pub mod Kept
pub mod Ports
pub mod Scenes
pub mod Ways
