pub mod PlaceLemmas
pub mod WordLemmas
pub mod HeaderLemmas
pub mod LengthLemmas
pub mod FileLemmas
pub mod LayoutLemmas
pub mod TopLemmas
pub mod ImageLemmas
pub mod ShapeLemmas
mod PadLemmas
