pub mod Shifts
pub mod ExpressionComplete
pub mod ExpressionSound
pub mod ExpressionTurns
pub mod MacroFronts
pub mod ExpressionMeaning
pub mod TableLemmas
