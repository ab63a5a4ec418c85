mod Beside
mod Joined
mod Told
mod Unfolding
mod Walked
