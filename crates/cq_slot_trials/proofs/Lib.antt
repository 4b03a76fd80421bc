mod Terms
mod Arriving
mod IdealSlots
mod EngineSlots
