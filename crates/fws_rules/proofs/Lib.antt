pub mod Alike
pub mod AlikeWays
pub mod Named
pub mod Parts
pub mod Patterns
pub mod Regular
