pub mod ComparedPorts
pub mod Known
pub mod Listed
pub mod PoolNames
pub mod Wildcards
