mod Terms
mod Arrived
mod Crossing
mod Followed
