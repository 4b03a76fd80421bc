pub mod Classes
pub mod Machine
pub mod MachineLaws
pub mod Steps
pub mod Switch
