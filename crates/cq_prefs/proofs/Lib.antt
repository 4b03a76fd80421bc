mod Terms
pub mod Padded
pub mod Places
pub mod Members
pub mod OutputOrder
pub mod InputOrder
pub mod OneOrder
pub mod ByKey
pub mod Renewing
pub mod BehindFirst
pub mod Changes
pub mod Pairs
pub mod Best
pub mod Steps
pub mod Holding
pub mod Quiet
pub mod LeastFirst
pub mod Offering
