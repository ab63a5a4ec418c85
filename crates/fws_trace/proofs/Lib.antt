mod Keys
mod Listing
mod OfSite
mod Walked
