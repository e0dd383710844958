pub mod Words
pub mod TreeAt
pub mod Finished
