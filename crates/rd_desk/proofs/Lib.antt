pub mod Prelude
pub mod HistoryLemmas
pub mod ChainLemmas
pub mod RoomLemmas
pub mod PassLemmas
pub mod OwnCalls
pub mod Sends
