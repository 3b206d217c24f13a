pub mod Prelude
pub mod Segments
