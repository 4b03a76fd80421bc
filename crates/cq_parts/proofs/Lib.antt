mod Terms
mod Whole
