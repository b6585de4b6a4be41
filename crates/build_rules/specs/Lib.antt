pub mod Rules
pub mod ImageBounds
pub mod ModuleBounds
pub mod TextBounds
pub mod RulesBounds
pub mod Adopting
pub mod Older
pub mod Values
