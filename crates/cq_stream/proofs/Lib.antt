mod Terms
pub mod Closing
