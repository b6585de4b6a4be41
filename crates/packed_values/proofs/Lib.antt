pub mod RowsLemmas
pub mod WhereLemmas
pub mod WholeLemmas
