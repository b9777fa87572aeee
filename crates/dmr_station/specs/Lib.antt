pub mod Announced
pub mod Clean
pub mod DownlinkMeaning
pub mod DownlinkRules
pub mod GatewayMeaning
pub mod Sent
pub mod Station
pub mod StationRules
