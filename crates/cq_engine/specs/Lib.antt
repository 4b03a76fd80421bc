pub mod Crossing
pub mod Measuring
pub mod Engine
pub mod Straight
pub mod Sending
pub mod Resting
pub mod Terms
