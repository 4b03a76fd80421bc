pub mod Numerals
pub mod Report
pub mod Sheet
