pub mod Numbers
pub mod Walked
pub mod WhyText
