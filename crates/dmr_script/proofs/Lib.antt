mod Lettering
mod Saying
mod SmallOctets
