pub mod Room
pub mod Indents
pub mod Going
