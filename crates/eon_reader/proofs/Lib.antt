pub mod Stand
pub mod Examples
