pub mod BurstExports
pub mod BurstPackets
pub mod CountTexts
pub mod Deciding
pub mod EachBurst
pub mod Repeats
pub mod StreamAddresses
pub mod Streams
