pub mod AlikeWalks
pub mod Kept
pub mod Regular
pub mod RuleWords
pub mod StatementWords
pub mod Texts
pub mod Written
