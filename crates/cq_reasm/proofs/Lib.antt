mod Terms
pub mod Tables
pub mod Joins
pub mod Runs
