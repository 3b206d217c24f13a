pub mod Outcomes
pub mod Answering
