mod CommonBeginning
pub mod IndexLists
pub mod IndexTable
pub mod IndexKeys
pub mod IndexPositions
pub mod IndexChanges
pub mod IndexFirst
pub mod IndexRemove
pub mod IndexCuts
pub mod LastPositions
pub mod IndexWriters
pub mod Moving
pub mod Sharing
pub mod Search
pub mod Reaching
pub mod Exactness
pub mod Converse
