pub mod Said
pub mod Spotted
