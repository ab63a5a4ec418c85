pub mod Eithers
pub mod Standing
