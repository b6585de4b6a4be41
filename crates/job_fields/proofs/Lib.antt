pub mod JoinLemmas
pub mod EachLemmas
pub mod LineLemmas
pub mod ReadLemmas
