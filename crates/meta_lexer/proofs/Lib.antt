pub mod PieceLemmas
pub mod NumberLemmas
pub mod FieldLemmas
pub mod TokenLemmas
