pub mod CommandLemmas
pub mod JoinLemmas
pub mod BothLemmas
