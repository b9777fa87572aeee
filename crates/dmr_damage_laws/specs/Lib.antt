pub mod DamagedCopies
pub mod DamagedSlots
pub mod SameTransmissions
