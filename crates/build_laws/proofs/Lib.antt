pub mod FlashShape
mod PlatformShape
mod ImageValues
mod DescriptionLemmas
mod ToldLemmas
mod ChoiceValues
mod PcdValues
mod TextLemmas
mod VpdLemmas
mod StatementValues
mod RuleValues
mod VolumeValues
pub mod DeviceValues
pub mod BuildValues
mod OutputValues
