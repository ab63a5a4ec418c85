pub mod Blocks
pub mod Drafted
pub mod Gathered
pub mod Grounds
pub mod Placed
pub mod Renumbered
pub mod Sources
