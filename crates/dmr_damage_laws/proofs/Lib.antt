mod Cells
mod Copies
mod Decided
mod Lists
mod Places
mod Rewriting
mod Slots
mod Steps
