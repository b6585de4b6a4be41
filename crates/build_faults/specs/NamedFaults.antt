-- The names of the faults of a build. The rule is this project's own.
use Rattle.std.specs.Prelude.{ℕ, Bool, List}
use Rattle.build_base.specs.World.{World, field}
use Rattle.doc_types.specs.declared.choice.Module.{Module}
use Rattle.job_fields.specs.Fields.{ARCHES, TARGET, TAG, PCDS, IMAGES}
use Rattle.module_faults.specs.Folders.{IsNameOrNone}
use Rattle.module_faults.specs.Words.{AreArches, AreImages, AreSets}
use Rattle.named_faults.specs.Named.{FailsByName}
use Rattle.build_laws.specs.BuildValues.{all_value}
use Rattle.build_laws.specs.ImageValues.{file_value, volume_value, device_value}
use Rattle.build_laws.specs.ModuleValues.{choice_value, pcds_value, values_value}
use Rattle.build_laws.specs.TextValues.{code_value, depex_value, report_value}
use Rattle.build_rules.specs.Values.{dec_value, inf_value, platform_value, flash_value}
use Rattle.build_laws.specs.VpdValues.{vpd_value}

-- The fields of a world come of a build's words: each has a reading, and a target and a tag are names
-- or empty.
pub record IsSpoken (w : World) : Type 0 where
  pub arches : AreArches (field w ARCHES)
  pub target : IsNameOrNone (field w TARGET)
  pub tag : IsNameOrNone (field w TAG)
  pub sets : AreSets (field w PCDS)
  pub images : AreImages (field w IMAGES)

-- Each step gives something, or its fault has a name.
pub record StepsFailByName (w : World) : Type 0 where
  pub packages : (path : List ℕ) → FailsByName (dec_value w path)
  pub modules : (path : List ℕ) → FailsByName (inf_value w path)
  pub platform : FailsByName (platform_value w)
  pub flash : FailsByName (flash_value w)
  pub libraries : (m : Module) → FailsByName (choice_value w m)
  pub dynamic : FailsByName (pcds_value w)
  pub values : (m : Module) → FailsByName (values_value w m)
  pub texts : (m : Module) → FailsByName (code_value w m)
  pub expressions : (m : Module) → FailsByName (depex_value w m)
  pub report : FailsByName (report_value w)
  pub vpd : FailsByName (vpd_value w)
  pub files : (v i : ℕ) → FailsByName (file_value w v i)
  pub volumes : (moved : Bool) (v : ℕ) → FailsByName (volume_value w moved v)
  pub devices : (d : ℕ) → FailsByName (device_value w d)
  pub all : FailsByName (all_value w)
