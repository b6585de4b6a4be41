pub mod Macros
pub mod Scopes
pub mod Values
pub mod ExpressionTree
pub mod ExpressionMachine
pub mod ExpressionState
pub mod Expressions
