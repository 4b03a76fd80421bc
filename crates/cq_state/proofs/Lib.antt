mod Terms
pub mod Fields
pub mod Written
pub mod OneReading
pub mod OneText
pub mod Reading
pub mod Writing
