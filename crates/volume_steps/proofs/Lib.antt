pub mod BasedLemmas
pub mod OrderLemmas
