pub mod Turns
pub mod LeastLemmas
pub mod SegmentNameLemmas
pub mod GatheringLemmas
pub mod HeldLemmas
pub mod BlockLemmas
pub mod FaultlessLemmas
pub mod KeptLemmas
