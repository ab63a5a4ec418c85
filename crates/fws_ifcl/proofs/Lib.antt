pub mod Heights
pub mod Loops
pub mod Refused
pub mod Walks
