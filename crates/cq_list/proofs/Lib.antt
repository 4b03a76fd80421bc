mod Terms
pub mod BlockWalk
pub mod Blocks
pub mod Chain
pub mod Counts
pub mod Filled
pub mod Finger
pub mod Kept
pub mod Least
pub mod Linked
pub mod Nth
pub mod Put
pub mod Queues
pub mod Split
pub mod Told
pub mod Walk
pub mod Sums
pub mod Runs
