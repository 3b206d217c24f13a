pub mod Prelude
pub mod ReportLemmas
pub mod ViewingLemmas
pub mod ViewEnds
pub mod HistoryLemmas
pub mod LiveLemmas
