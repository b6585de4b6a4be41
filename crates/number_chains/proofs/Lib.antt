pub mod SkipLemmas
pub mod MarkLemmas
