pub mod Beginnings
pub mod Equivalence
pub mod Reordering
pub mod KeepingOrder
pub mod ComparedSteps
