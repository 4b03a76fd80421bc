pub mod Draws
pub mod Packets
pub mod Tables
