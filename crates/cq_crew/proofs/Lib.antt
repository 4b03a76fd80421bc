mod Terms
pub mod Working
pub mod Phases
