pub mod Key
pub mod Out
pub mod Talk
