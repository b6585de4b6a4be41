-- What of the image is taken, as the code holds it: stretches in order, and for each type a number
-- below which no multiple of its alignment is free.
use Rattle.std.specs.Prelude.{◌≡◌, ℕ, ◌+◌, ◌*◌, ◌<◌, ◌≤◌, max, nat_le, Bool, true, false, if◌then◌else◌, List, [], ◌∷◌, Result, slice_index_or}
use Rattle.std.specs.Int.{div_ceil}
use Rattle.std.specs.List.{list_any}
use Rattle.build_base.specs.declared.fault.Fault.{Fault}
use Rattle.build_base.specs.First.{unless}
use Rattle.doc_types.specs.declared.pcd.Datum.{Datum}
use Rattle.doc_types.specs.declared.pcd.Datum.TheVariants.{U8, U16, U32, U64, Boolean, Void}
use Rattle.pcd_values.specs.Parsing.{width}
use Rattle.vpd_image.specs.declared.free_map.FreeMap.{FreeMap}
use Rattle.vpd_image.specs.declared.free_map.TakenRange.{TakenRange}
use Rattle.vpd_image.specs.Entries.{Entry}
use Rattle.vpd_image.specs.Places.{Placed, share, shares, align_of, size_of, least_place, end_fault}

abbrev pub room_limit : ℕ
room_limit = 0x200000000

abbrev pub meets : ℕ → ℕ → TakenRange → Bool
meets start end stretch = share start end stretch.start stretch.end

-- one behind another, from a place on, each with bytes
unfoldable pub AreLaid : ℕ → List TakenRange → Type 0
AreLaid at [] = Unit {0}
AreLaid at (stretch ∷ more) = (at ≤ stretch.start) × (stretch.start < stretch.end)
    × AreLaid stretch.end more

abbrev pub AreBelow : List TakenRange → Type 0
AreBelow [] = Unit {0}
AreBelow (stretch ∷ more) = (stretch.end ≤ room_limit) × AreBelow more

-- the number of the first multiple, from one on, at which so many bytes are before the next stretch
unfoldable pub first_multiple : List TakenRange → ℕ → ℕ → ℕ → ℕ
first_multiple [] align size n = n
first_multiple (stretch ∷ more) align size n =
    if nat_le (align * n + size) stretch.start then n
    else first_multiple more align size (max n (div_ceil stretch.end align))

abbrev pub slot : Datum → ℕ
slot U8 = 0
slot U16 = 1
slot U32 = 2
slot U64 = 3
slot Boolean = 4
slot Void = 5

-- the least size of a type's values that have bytes
unfoldable pub least_size : Datum → ℕ
least_size Void = 1
least_size datum = width datum

-- the first multiple, from one on, at which no byte is taken
pub record IsNext (taken : List TakenRange) (align size from n : ℕ) : Type 0 where
  pub after : from ≤ n
  pub free : list_any (meets (align * n) (align * n + size)) taken ≡ false
  pub none : (m : ℕ) → from ≤ m → m < n → list_any (meets (align * m) (align * m + size)) taken
      ≡ true

-- at no lower multiple a type's least value is free
abbrev pub IsPast : List Placed → Datum → ℕ → Type 0
IsPast placed datum n = (m : ℕ) → m < n
    → list_any (shares (align_of datum * m) (align_of datum * m + least_size datum)) placed ≡ true

abbrev pub low_of : FreeMap → Datum → ℕ
low_of room datum = slice_index_or room.lows (slot datum) 0

pub record IsRoom (room : FreeMap) : Type 0 where
  pub laid : AreLaid 0 room.taken.items
  pub below : AreBelow room.taken.items
  pub small : (datum : Datum) → low_of room datum ≤ room_limit

-- a room has what these entries take
pub record Holds (placed : List Placed) (room : FreeMap) : Type 0 where
  pub sound : IsRoom room
  pub same : (start size : ℕ) → list_any (shares start (start + size)) placed
      ≡ list_any (meets start (start + size)) room.taken.items
  pub past : (datum : Datum) → IsPast placed datum (low_of room datum)

-- an entry with `*`, behind these
abbrev pub starred_at : List Placed → Entry → Placed
starred_at placed entry =
    record {
      entry = entry;
      offset =
          least_place placed (align_of entry.row.datum) (size_of entry.row);
    }

-- an entry that doesn't end too late
abbrev pub ended : Placed → Result Placed Fault
ended placed = unless (end_fault placed) placed
