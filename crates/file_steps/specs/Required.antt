-- Which sections of a module's file require the files that they name (EDK II FDF specification,
-- [Rule] sections).
use Rattle.std.specs.Prelude.{◌≡◌, ℕ, ◌&&◌, not, Bool, find, List, drop, Option, Some, None, slice_get}
use Rattle.std.specs.Global.{Vec}
use Rattle.std.specs.HashMap.{HashMap, get}
pub use Rattle.doc_types.specs.NameKeys.{same_key}
use Rattle.doc_types.specs.declared.volume.SectionPlan.{SectionPlan}
use Rattle.file_steps.specs.ModuleAsks.{is_source_of}

-- a section that isn't Optional requires its file
abbrev pub requires_path : List ℕ → SectionPlan → Bool
requires_path path section = not section.optional && is_source_of path section.source

-- the first of some sections that requires the file of a path
abbrev pub requiring : List SectionPlan → List ℕ → Option SectionPlan
requiring sections path = find (requires_path path) sections

abbrev pub section_at : {X : Type 0} → List X → Option ℕ → Option X
section_at xs None = None
section_at xs (Some place) = slice_get xs place

-- a table gives for each path the place of the first section from a place on that requires its file
abbrev pub IsTableFrom : {S : Type 0} → List SectionPlan → ℕ → HashMap (Vec ℕ) ℕ S → Type 0
IsTableFrom sections n table =
    (key : Vec ℕ) → section_at sections (get same_key table key) ≡ requiring (drop n sections) key.items

abbrev pub IsTable : {S : Type 0} → List SectionPlan → HashMap (Vec ℕ) ℕ S → Type 0
IsTable sections table = (key : Vec ℕ) → section_at sections (get same_key table key)
    ≡ requiring sections key.items
