pub mod Prelude
pub mod LineLemmas
pub mod ConversationLemmas
pub mod ScriptLemmas
