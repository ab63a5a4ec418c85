pub mod Contents
pub mod Failing
pub mod Outside
