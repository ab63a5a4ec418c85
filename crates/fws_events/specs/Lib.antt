pub mod EventText
pub mod Listing
pub mod RunText
pub mod Runs
