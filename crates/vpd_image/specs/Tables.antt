-- The entries that the code holds, and its table of the rows that are left.
use Rattle.std.specs.Prelude.{◌≡◌, ℕ, List, find, drop, Option, Some, None, slice_get}
use Rattle.std.specs.Global.{Vec}
use Rattle.std.specs.HashMap.{HashMap, get}
pub use Rattle.doc_types.specs.NameKeys.{same_key}
use Rattle.doc_types.specs.declared.arch.Arch.{Arch}
use Rattle.doc_types.specs.declared.platform.PcdLine.{PcdLine}
use Rattle.doc_types.specs.declared.values.PcdRow.{PcdRow}
use Rattle.vpd_image.specs.declared.lines.EntryLine.{EntryLine}
use Rattle.vpd_image.specs.declared.places.PlacedLine.{PlacedLine}
use Rattle.vpd_image.specs.Entries.{Entry, is_row_of, row_left}
use Rattle.vpd_image.specs.Places.{Placed}

abbrev pub entry_view : EntryLine → Entry
entry_view e = record { line = e.line.now; row = e.row.now }

abbrev pub placed_view : PlacedLine → Placed
placed_view p = record { entry = entry_view p.entry; offset = p.offset }

abbrev pub row_at : {X : Type 0} → List X → Option ℕ → Option X
row_at xs None = None
row_at xs (Some place) = slice_get xs place

-- a table gives for each name the place of its first row from a place on
abbrev pub IsTableFrom : {S : Type 0} → List PcdRow → ℕ → HashMap (Vec ℕ) ℕ S → Type 0
IsTableFrom rows n table = (key : Vec ℕ) → row_at rows (get same_key table key)
    ≡ find (is_row_of key.items) (drop n rows)

-- a table gives for each name the place of the row that the lines below leave to it
abbrev pub IsLeft : {S : Type 0} → List Arch → List PcdRow → List PcdLine → HashMap (Vec ℕ) ℕ S
    → Type 0
IsLeft arches rows below table = (key : Vec ℕ)
    → row_at rows (get same_key table key) ≡ row_left arches rows below key.items
