pub mod MoreLines
pub mod QueryText
pub mod TableText
