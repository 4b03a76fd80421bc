mod Terms
pub mod Waiting
pub mod Leaving
pub mod Reached
pub mod Proposing
