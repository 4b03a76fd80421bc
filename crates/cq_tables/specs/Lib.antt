pub mod Check
pub mod Place
pub mod Value
pub mod Key
pub mod Document
pub mod Files
pub mod Terms
