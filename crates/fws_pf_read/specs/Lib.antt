pub mod Asked
pub mod Places
pub mod Statements
pub mod Taking
pub mod Texts
pub mod Views
pub mod Written
