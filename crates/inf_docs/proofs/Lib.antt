pub mod TableLemmas
pub mod SectionLemmas
pub mod GivenLemmas
pub mod NameLemmas
