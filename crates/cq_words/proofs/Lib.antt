mod Terms
pub mod Splitting
pub mod Streaming
