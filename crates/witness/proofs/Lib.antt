pub mod SessionLemmas
pub mod OneAnswer
pub mod OnlyReport
pub mod RoomLemmas
