pub mod Actors
pub mod Labels
pub mod Table
pub mod Words
