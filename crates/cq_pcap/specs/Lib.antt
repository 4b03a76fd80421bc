pub mod Captured
pub mod Form
pub mod Record
pub mod Faults
pub mod Reading
pub mod Rows
pub mod Written
