mod Terms
pub mod Headers
pub mod SpeltIsRead
pub mod ReadIsSpelt
pub mod Rows
pub mod Refused
pub mod Writing
pub mod WrittenIsSpelt
