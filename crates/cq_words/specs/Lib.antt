pub mod Numbers
pub mod Words
pub mod Streamed
pub mod Line
