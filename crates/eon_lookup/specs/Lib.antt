pub mod Keys
pub mod Live
