mod Terms
pub mod Zipped
pub mod Cut
pub mod Lanes
pub mod Coming
pub mod Tallied
pub mod Adding
pub mod Judging
pub mod Scheduling
pub mod Joining
pub mod GoesOn
pub mod OneAnswer
