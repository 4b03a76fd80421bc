pub mod Rings
pub mod Stream
