pub mod Machine
pub mod Placed
pub mod Place
