pub mod Block
pub mod Fingers
pub mod InputList
pub mod Places
pub mod Pool
pub mod Split
pub mod Sums
