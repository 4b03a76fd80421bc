mod Terms
pub mod Bounds
pub mod Listed
