pub mod Refusing
pub mod Trial
pub mod ThreePorts
