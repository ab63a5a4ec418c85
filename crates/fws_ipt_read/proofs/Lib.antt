pub mod Appended
pub mod Keys
