pub mod Ahead
pub mod Behind
pub mod Counts
pub mod Judged
pub mod Putting
pub mod SameWords
pub mod Within
