mod Apart
mod Chunked
mod Entries
mod EventsOfSite
mod Fated
mod KeepStep
mod Removed
mod Turns
