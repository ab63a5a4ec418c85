pub mod LoadedFilters
pub mod LoadedSite
