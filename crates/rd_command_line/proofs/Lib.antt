pub mod LiveLemmas
pub mod AnsweringLemmas
