-- What is looked up in a whole flash description.
use Rattle.std.specs.Prelude.{◌≡◌, ℕ, List, Option, Some, None, slice_get}
use Rattle.std.specs.Option.{option_map}
use Rattle.std.proofs.Common.{Bor}
use Rattle.build_base.specs.declared.fault.Fault.{Fault}
use Rattle.flash_document.specs.declared.stated.FdfSection.{FdfSection}
use Rattle.flash_document.specs.declared.stated.StatedVolume.{StatedVolume}
use Rattle.flash_document.specs.declared.whole.Tables.{Tables}
use Rattle.flash_document.specs.Document.{numbered}
use Rattle.flash_document.specs.Held.{Sizes}
use Rattle.flash_document.specs.Names.{Places}
use Rattle.flash_document.specs.Whole.{names_of, nests_of, all_held, loop_at}

pub record Stands (parts : List FdfSection) (tables : Tables) : Type 0 where
  pub names : tables.names ≡ names_of parts
  pub places : Places (names_of parts) tables.places
  pub sizes : Sizes (all_held parts) tables.sizes
  pub nests : tables.nests ≡ nests_of parts
  pub order : tables.order ≡ numbered parts

-- the fault of a volume that holds itself, among volumes that are lent
unfoldable pub loop_in : List (Bor StatedVolume) → Option ℕ → Option Fault
loop_in volumes None = None
loop_in volumes (Some p) = loop_at (option_map (λ v. v.now) (slice_get volumes p))
