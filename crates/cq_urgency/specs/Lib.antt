pub mod Blocks
pub mod OutputBuffer
