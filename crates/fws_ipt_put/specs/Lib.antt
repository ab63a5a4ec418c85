pub mod Builtin
pub mod Drafts
pub mod Gathered
pub mod Marks
pub mod NatRules
pub mod Placed
pub mod Roots
