mod Terms
pub mod Values
pub mod Checks
pub mod Walk
pub mod Text
pub mod Versions
