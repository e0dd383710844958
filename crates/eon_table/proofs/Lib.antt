pub mod Parts
pub mod Table
pub mod Walk
pub mod Finished
pub mod Spans
pub mod Here
pub mod OfKind
