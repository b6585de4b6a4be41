pub mod EntryLemmas
pub mod FrontLemmas
pub mod GuidMarkLemmas
