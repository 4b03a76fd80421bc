pub mod Stopped
pub mod Read
