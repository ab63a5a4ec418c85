pub mod Crossing
pub mod Lists
pub mod Parting
pub mod Picking
pub mod Sources
