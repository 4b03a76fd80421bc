mod Terms
pub mod Pieces
pub mod Ranges
pub mod Stamps
pub mod Packets
pub mod Rising
pub mod Looked
pub mod Owned
