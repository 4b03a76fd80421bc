mod Terms
pub mod Hundreds
pub mod OneMore
