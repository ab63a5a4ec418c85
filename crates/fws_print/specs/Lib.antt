pub mod Appended
pub mod Labels
pub mod Sets
pub mod Words
