pub mod Coming
pub mod Laws
pub mod Listing
pub mod Points
pub mod Turning
