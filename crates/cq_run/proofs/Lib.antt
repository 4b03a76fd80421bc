mod Terms
pub mod Put
pub mod Crossed
pub mod Chain
pub mod Ports
pub mod Planned
pub mod Reached
pub mod OnePort
pub mod Ends
pub mod Left
pub mod Audits
pub mod AnyWorkers
