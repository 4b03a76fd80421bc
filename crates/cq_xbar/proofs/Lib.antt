mod Terms
pub mod Turns
pub mod Noting
pub mod OneEach
