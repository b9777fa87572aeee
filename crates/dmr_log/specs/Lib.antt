pub mod Checks
pub mod Ears
pub mod LogRules
pub mod Pieces
pub mod RecordingLogs
pub mod Repeated
pub mod SlotTracks
pub mod Transmissions
