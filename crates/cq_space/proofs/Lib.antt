mod Terms
pub mod InMemory
pub mod Replaced
