pub mod Session
pub mod Room
