pub mod Rooms
pub mod Stretch
