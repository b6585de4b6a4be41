pub mod TurnLemmas
pub mod LoopLemmas
pub mod OrderLemmas
pub mod NestLemmas
