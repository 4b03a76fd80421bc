mod Terms
pub mod Views
pub mod Hands
pub mod Proposing
pub mod Seats
pub mod Closing
pub mod Matched
pub mod CoreState
pub mod Allowed
