pub mod NextLine
pub mod Answers
pub mod Conversation
pub mod Script
