pub mod Labels
pub mod Printable
pub mod PrintedText
pub mod ReadBack
