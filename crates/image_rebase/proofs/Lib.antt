pub mod BlockLemmas
pub mod FileLemmas
pub mod SameLemmas
pub mod BodyLemmas
pub mod VolumeLemmas
