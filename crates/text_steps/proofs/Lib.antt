pub mod DepexNameLemmas
