pub mod Prelude
pub mod SegmentLemmas
pub mod FreshLemmas
pub mod OperationLemmas
