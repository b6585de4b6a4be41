-- What a search for the instances of a module keeps from round to round.
use Rattle.std.specs.Prelude.{◌≡◌, List, Some}
use Rattle.doc_types.specs.declared.choice.Module.{Module}
use Rattle.doc_types.specs.declared.module.InfDoc.{InfDoc}
use Rattle.doc_types.specs.declared.platform.PlatformDoc.{PlatformDoc}
use Rattle.library_choice.specs.declared.front.Fronts.{Fronts}
use Rattle.library_choice.specs.Closure.{known, setting_of}
use Rattle.library_choice.specs.Fronts.{AreFronts}
use Rattle.library_choice.specs.Lines.{Setting}

-- whose instances are looked for, and the INF files that are known
pub record Search : Type 0 where
  pub user : Module
  pub platform : PlatformDoc
  pub infs : List InfDoc

-- the module's INF file is known, and the fronts are its own
pub record IsSearch (user : Module) (platform : PlatformDoc) (inf : InfDoc) (s : Setting)
    (f : Fronts) : Type 0 where
  pub own : known s.infs user.inf ≡ Some inf
  pub setting : s ≡ setting_of user platform s.infs inf
  pub fronts : AreFronts s inf f
