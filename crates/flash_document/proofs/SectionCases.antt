-- What holds of each kind of section holds of every section.
use Rattle.flash_document.specs.declared.stated.FdfSection.{FdfSection}
use Rattle.flash_document.specs.declared.stated.FdfSection.TheVariants.{Settings, Device, Volume, Rule}
use Rattle.flash_document.specs.declared.stated.StatedDevice.{StatedDevice}
use Rattle.flash_document.specs.declared.stated.StatedRule.{StatedRule}
use Rattle.flash_document.specs.declared.stated.StatedVolume.{StatedVolume}

pub section_cases : (P : FdfSection → Type 0) → P Settings → ((device : StatedDevice) → P (Device device)) → ((volume : StatedVolume) → P (Volume volume)) → ((rule : StatedRule) → P (Rule rule))
    → (part : FdfSection) → P part
section_cases P settings device volume rule Settings = settings
section_cases P settings device volume rule (Device d) = device d
section_cases P settings device volume rule (Volume v) = volume v
section_cases P settings device volume rule (Rule r) = rule r
