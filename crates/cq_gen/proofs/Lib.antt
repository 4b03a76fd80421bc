mod Terms
pub mod Drawn
pub mod InRange
pub mod Routed
pub mod Small
