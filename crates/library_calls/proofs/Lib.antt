pub mod OrderLaws
pub mod OrderLemmas
pub mod TurnLemmas
pub mod WaitingLemmas
