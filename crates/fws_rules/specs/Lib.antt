pub mod Alike
pub mod AlikeWays
pub mod Interfaces
pub mod Literals
pub mod Names
pub mod Networks
pub mod Regular
