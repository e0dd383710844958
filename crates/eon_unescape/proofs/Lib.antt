pub mod Hex
pub mod Kept
pub mod Lists
pub mod Places
pub mod Runs
pub mod Writes
