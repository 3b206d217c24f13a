pub mod Reports
pub mod Viewing
pub mod Live
pub mod Tasks
