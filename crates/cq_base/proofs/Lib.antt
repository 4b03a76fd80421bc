pub mod Library
mod Terms
pub mod Decimals
pub mod Keys
pub mod Each
pub mod Having
pub mod Pooled
pub mod Putting
pub mod Lists
pub mod Places
pub mod Supplies
