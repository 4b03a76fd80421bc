pub mod Crossing
pub mod Followed
