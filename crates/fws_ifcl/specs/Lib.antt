pub mod Loops
pub mod Refusals
pub mod Soundness
pub mod Spots
pub mod Turns
pub mod Uses
pub mod Walk
