pub mod CodeLemmas
pub mod NamedLemmas
