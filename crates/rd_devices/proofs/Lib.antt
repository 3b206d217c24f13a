pub mod ResultLemmas
