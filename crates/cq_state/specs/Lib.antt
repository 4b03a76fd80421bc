pub mod StateText
pub mod Places
pub mod State
pub mod OneText
pub mod Gather
pub mod Refusals
