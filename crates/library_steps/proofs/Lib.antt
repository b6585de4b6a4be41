pub mod ChoiceLemmas
pub mod HeldInfLemmas
pub mod KnownLemmas
pub mod NearLemmas
pub mod SkuLemmas
