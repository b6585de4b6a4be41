pub mod SumLemmas
pub mod PadLemmas
pub mod PartLemmas
pub mod HeadLemmas
mod SizeLemmas
