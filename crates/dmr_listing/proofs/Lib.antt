pub mod Drawing
pub mod Listings
pub mod OctetDigits
pub mod OutgoingListings
pub mod Places
pub mod ReceivedListings
