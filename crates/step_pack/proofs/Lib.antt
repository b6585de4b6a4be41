pub mod NumberLemmas
pub mod KeyLemmas
pub mod PackedLemmas
