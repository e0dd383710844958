pub mod Nearest
pub mod Covers
pub mod Filtered
pub mod Refusals
pub mod Room
pub mod Downward
pub mod Chosen
pub mod Listing
