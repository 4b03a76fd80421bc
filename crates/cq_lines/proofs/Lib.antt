mod Terms
pub mod Spelling
pub mod Walk
pub mod Going
pub mod Exact
