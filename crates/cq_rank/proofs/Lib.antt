pub mod Floors
pub mod Rows
