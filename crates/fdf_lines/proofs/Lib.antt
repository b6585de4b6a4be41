pub mod MacroLemmas
pub mod StandingLemmas
pub mod CountLemmas
pub mod FormatLemmas
pub mod StatementLemmas
pub mod LimitLemmas
