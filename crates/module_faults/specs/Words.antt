-- What the fields of a job have to be, so that what is read from them has no other fault (EDK II Build
-- specification, options -a, --pcd, -r and -i).
use Rattle.std.specs.Prelude.{◌≡◌, ℕ, true, List}
use Rattle.std.specs.Option.{is_some}
use Rattle.build_base.specs.declared.fault.Place.{Place}
use Rattle.job_fields.specs.Readings.{arches_in, sets_in, images_in}

-- each line names an architecture that can be built
abbrev pub AreArches : List ℕ → Type 0
AreArches text = is_some (arches_in text) ≡ true

-- each line gives a PCD a value, `Space.Name=Value`
abbrev pub AreSets : List ℕ → Type 0
AreSets text = (at : Place) → is_some (sets_in at text) ≡ true

-- each line wants a device or a volume
abbrev pub AreImages : List ℕ → Type 0
AreImages text = is_some (images_in text) ≡ true
