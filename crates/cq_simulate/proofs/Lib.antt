mod Terms
pub mod FabricLaws
pub mod ResumedWhole
pub mod Steps
pub mod OfPackets
pub mod EachPacket
pub mod AllPacked
pub mod TakenUp
