pub mod Deciding
pub mod Joined
