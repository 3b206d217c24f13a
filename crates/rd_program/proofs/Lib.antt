pub mod ProgramLemmas
pub mod EndingLemmas
pub mod ViewLemmas
