pub mod Classes
pub mod ConnectionText
pub mod Lines
pub mod Outcomes
pub mod PacketText
pub mod TraceText
