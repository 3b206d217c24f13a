pub mod Program
pub mod Viewers
pub mod Live
pub mod Endings
