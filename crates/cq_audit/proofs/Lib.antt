mod Terms
pub mod LogLines
pub mod OneDifference
pub mod Ahead
pub mod PhaseExact
pub mod Crossings
pub mod Following
pub mod Slots
pub mod Steps
pub mod AuditExact
pub mod Noted
