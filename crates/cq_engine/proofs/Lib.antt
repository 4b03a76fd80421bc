mod Terms
pub mod NoOffers
pub mod Shown
pub mod Slot
pub mod Kept
mod Counted
mod Going
mod StraightSlot
