pub mod Boxes
pub mod Fields
pub mod Sides
