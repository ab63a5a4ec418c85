pub mod Labels
pub mod Order
pub mod Printable
pub mod PrintedText
pub mod ReadBack
