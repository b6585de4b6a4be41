pub mod Standard
pub mod Sums
pub mod Alignment
pub mod Sections
pub mod Sizes
pub mod File
pub mod Lent
pub mod LentPlans
