pub mod FieldSides
pub mod Joined
