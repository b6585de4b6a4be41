pub mod ValueLemmas
pub mod FirstFaults
pub mod Asked
pub mod KindLemmas
pub mod ReachedLemmas
pub mod NamedOutputs
pub mod AdoptLemmas
mod OlderLemmas
