pub mod PartLemmas
pub mod ExpressionLemmas
pub mod GrammarLemmas
pub mod ValueLemmas
pub mod PackageFaults
pub mod ModuleFaults
pub mod ExpansionFaults
