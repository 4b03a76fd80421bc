pub mod Open
pub mod Table
pub mod Joining
pub mod Piece
pub mod Cutting
pub mod Whole
