pub mod Cubes
pub mod Ivs
pub mod Prefixes
pub mod Stored
