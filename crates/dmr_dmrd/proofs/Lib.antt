pub mod Frames
pub mod InTurn
pub mod Lines
pub mod PlacedBursts
pub mod SentFrames
pub mod Syncs
