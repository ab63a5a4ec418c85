pub mod Places
pub mod Right
pub mod Rules
pub mod Straight
pub mod UsedPlaces
