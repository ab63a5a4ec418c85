pub mod Soundness
pub mod Uses
pub mod Walk
