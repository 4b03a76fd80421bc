pub mod Schedule
pub mod Traffic
pub mod Scheduled
pub mod Lines
pub mod NextArrival
pub mod Coming
pub mod Terms
