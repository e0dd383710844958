pub mod Printed
pub mod Word
