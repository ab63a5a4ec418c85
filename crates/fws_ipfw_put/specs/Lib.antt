pub mod Ends
pub mod Guards
pub mod Instances
pub mod Known
pub mod Laid
pub mod Layout
pub mod Placed
pub mod Redirects
