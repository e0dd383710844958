pub mod Words
pub mod Trees
pub mod Rows
