pub mod Queues
pub mod Holding
pub mod Newest
pub mod Held
pub mod Crossing
pub mod Released
pub mod Telling
pub mod Terms
