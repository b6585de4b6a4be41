pub mod Steps
pub mod PathLemmas
pub mod SpellingLemmas
pub mod MemorySinkLemmas
pub mod MemoryTreeLemmas
pub mod Places
pub mod PieceLemmas
pub mod Least
pub mod BestLemmas
pub mod AnswerLemmas
pub mod FirstLemmas
pub mod OptionLemmas
pub mod AllBelow
pub mod ChoiceLemmas
pub mod ResultLemmas
pub mod RunLemmas
mod ImageLemmas
mod PartLemmas
