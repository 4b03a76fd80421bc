mod Terms
pub mod Changed
pub mod Queued
pub mod Offered
pub mod Newest
pub mod Kept
pub mod Known
pub mod Limits
pub mod Slot
pub mod Rested
pub mod Filling
