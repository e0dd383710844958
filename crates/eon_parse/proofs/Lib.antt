mod Laws
mod Left
mod Store
mod Page
mod Pass
mod Steps
mod Same
mod Whole
mod Readings
mod Tops
pub mod Calls
