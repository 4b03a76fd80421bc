pub mod Tables
pub mod Defaults
pub mod Plain
pub mod Route
pub mod Directory
