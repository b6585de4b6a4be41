pub mod SmallRules
pub mod SmallBounds
