pub mod Walk
pub mod Top
pub mod Answer
pub mod Tops
pub mod Call
