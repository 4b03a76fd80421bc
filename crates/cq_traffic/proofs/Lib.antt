mod Terms
pub mod Arriving
pub mod ToCome
