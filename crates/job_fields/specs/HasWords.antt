-- What words give a job: each text passes its check (EDK II Build specification, options of
-- `build`).
use Rattle.std.specs.Prelude.{◌≡◌, ℕ, Bool, true, List, Option, IfSome}
use Rattle.std.specs.List.{AllByRecursion}
use Rattle.std.specs.Option.{is_some}
use Rattle.build_base.specs.Path.{path_field}
use Rattle.job_fields.specs.Values.{is_arch, is_define, is_name, is_setting}
use Rattle.job_fields.specs.declared.job.Job.{Job}

abbrev pub IsFile : List ℕ → Type 0
IsFile text = is_some (path_field text) ≡ true

-- a path, where one is given
abbrev pub IsFileIfGiven : Option (List ℕ) → Type 0
IsFileIfGiven file = IfSome file IsFile

-- a name, where one is given
abbrev pub IsNameIfGiven : Option (List ℕ) → Type 0
IsNameIfGiven name = IfSome name (λ text. is_name text ≡ true)

-- each text passes a test
abbrev pub EachPasses : (List ℕ → Bool) → List (List ℕ) → Type 0
EachPasses test texts = AllByRecursion (λ text. test text ≡ true) texts

pub record HasWords (job : Job) : Type 0 where
  pub platform : IsFile job.files.platform
  pub flash : IsFileIfGiven job.files.flash
  pub report : IsFileIfGiven job.files.report
  pub target : IsNameIfGiven job.names.target
  pub tag : IsNameIfGiven job.names.tag
  pub sku : IsNameIfGiven job.names.sku
  pub arches : EachPasses is_arch job.arches
  pub defines : EachPasses is_define job.settings.defines
  pub pcds : EachPasses is_setting job.settings.pcds
  pub devices : EachPasses is_name job.images.devices
  pub volumes : EachPasses is_name job.images.volumes
