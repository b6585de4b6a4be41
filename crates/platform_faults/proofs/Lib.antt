mod ItemTypes
mod DscLineLemmas
mod DeviceLineLemmas
mod VolumeLineLemmas
mod RuleLineLemmas
mod FdfLineLemmas
pub mod PlatformFaults
pub mod FlashFaults
