pub mod Blocks
pub mod Choices
pub mod Draft
pub mod InLists
pub mod Layout
pub mod Placed
