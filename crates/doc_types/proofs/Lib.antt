pub mod ComponentLemmas
pub mod NamePlaceLemmas
pub mod WalkLemmas
