pub mod Orders
pub mod FirstCells
pub mod Pairing
pub mod Padded
pub mod Renewal
pub mod Proposals
pub mod Moves
pub mod LeastFirst
