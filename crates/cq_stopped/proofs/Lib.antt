mod Terms
pub mod Ran
pub mod Stepping
pub mod Standing
pub mod Lined
pub mod Together
