pub mod Lines
pub mod Ranges
pub mod Texts
pub mod Refusals
pub mod Transfers
