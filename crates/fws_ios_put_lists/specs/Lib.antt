pub mod Blocks
pub mod Entries
pub mod FirstMatch
pub mod Sheets
pub mod Turns
