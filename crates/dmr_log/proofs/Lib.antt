mod Logging
mod Pieces
mod Taken
