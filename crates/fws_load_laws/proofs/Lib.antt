pub mod FilterLines
pub mod FiltersRead
pub mod NotRefused
pub mod PlainWords
pub mod RuleRead
pub mod SiteRead
