pub mod Boxes
pub mod Classes
pub mod Covers
pub mod Exactly
pub mod Inside
pub mod Steps
