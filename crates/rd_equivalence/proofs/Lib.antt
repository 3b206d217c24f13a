pub mod Prelude
mod CommonBeginning
pub mod FirstOfActor
pub mod TouchedKeys
pub mod TakingOut
pub mod TakingOn
pub mod KeepingOrder
pub mod KeysMeet
pub mod Exactness
pub mod RunsAgree
pub mod Converse
pub mod Reordering
pub mod ComparingLemmas
pub mod ComparedSteps
