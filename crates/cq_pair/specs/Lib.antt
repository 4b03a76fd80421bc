pub mod FreeInputs
pub mod Progress
