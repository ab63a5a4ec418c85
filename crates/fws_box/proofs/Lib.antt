pub mod Boxed
pub mod Meeting
pub mod Placed
pub mod Same
pub mod SideBySide
pub mod Spans
