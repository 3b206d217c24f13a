pub mod Representable
pub mod PointLemmas
