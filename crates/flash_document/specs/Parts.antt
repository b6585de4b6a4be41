-- What the sections of a flash description state, each below each of its heads, in file order (EDK
-- II FDF specification).
use Rattle.std.specs.Prelude.{ℕ, ◌+◌, List, [], ◌∷◌, ◌++◌}
use Rattle.build_base.specs.declared.fault.Place.{Place}
use Rattle.fdf_words.specs.declared.rows.LineRead.{LineRead}
use Rattle.fdf_words.specs.declared.rows.LineRead.TheVariants.{Heads, Body}
use Rattle.fdf_words.specs.declared.rows.Scope.{Scope}
use Rattle.fdf_words.specs.declared.rows.Scope.TheVariants.{Settings, Device, Volume, Rule}
use Rattle.flash_document.specs.declared.stated.FdfSection.{FdfSection}
use Rattle.flash_document.specs.declared.stated.FdfSection.TheVariants as stated
use Rattle.flash_document.specs.Devices.{device_of}
use Rattle.flash_document.specs.Volumes.{volume_of, rule_of_lines}
use Rattle.flash_document.specs.Sets.{section_lines}

-- below the head of a number
abbrev pub stated_of : Place → Scope → ℕ → List LineRead → FdfSection
stated_of at Settings k lines = stated.Settings
stated_of at (Device name) k lines = stated.Device (device_of at name k lines)
stated_of at (Volume name) k lines = stated.Volume (volume_of at name k lines)
stated_of at (Rule scope) k lines = rule_of_lines at scope k lines

abbrev pub stated_from : Place → ℕ → List Scope → List LineRead → List FdfSection
stated_from at k [] lines = []
stated_from at k (scope ∷ scopes) lines =
    stated_of at scope k lines ∷ stated_from at (k + 1) scopes lines

abbrev pub stated_below : LineRead → List LineRead → List FdfSection
stated_below (Heads at scopes) lines = stated_from at 0 scopes lines
stated_below (Body rows) lines = []

-- section by section
abbrev pub all_stated : List LineRead → List FdfSection
all_stated [] = []
all_stated (line ∷ lines) = stated_below line (section_lines lines) ++ all_stated lines
