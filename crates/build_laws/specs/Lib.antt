pub mod ModuleValues
pub mod TextValues
pub mod VpdValues
pub mod ImageValues
pub mod BuildValues
