pub mod Histories
pub mod Desks
pub mod Asking
pub mod Viewers
pub mod Rooms
pub mod Threads
