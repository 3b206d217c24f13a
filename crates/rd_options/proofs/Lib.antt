pub mod OptionLemmas
pub mod GetterLemmas
pub mod ApartLemmas
