pub mod Putting
pub mod SameWords
pub mod Within
