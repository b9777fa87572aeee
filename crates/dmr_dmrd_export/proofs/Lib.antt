mod EachPacket
mod Slots
mod Streaming
pub mod Told
mod Writing
