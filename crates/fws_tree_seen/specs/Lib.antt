pub mod Cuts
pub mod Fields
pub mod NodeLaws
pub mod Reached
pub mod Shown
pub mod SightLaws
