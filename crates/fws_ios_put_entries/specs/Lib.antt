pub mod Entries
pub mod Narrowing
pub mod Paths
pub mod Seen
