pub mod Lists
pub mod Histories
pub mod Rule
pub mod Steps
pub mod Locks
pub mod Opening
