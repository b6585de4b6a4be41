-- Where the entries of the image of vital product data stand.
use Rattle.std.specs.Prelude.{ℕ, zero, suc, ◌+◌, ◌-◌, ◌*◌, min, max, Bool, true, false, not, nat_lt, nat_le, if◌then◌else◌, List, [], ◌∷◌, ◌++◌, length, take, filter, find, replicate, Option, Some, None, Result, codes, decimal}
use Rattle.std.specs.List.{list_any}
use Rattle.std.specs.Option.{option_map}
use Rattle.build_base.specs.declared.fault.Fault.{Fault}
use Rattle.build_base.specs.FaultText.{fault_of}
use Rattle.build_base.specs.First.{or_else, or_fault, unless}
use Rattle.doc_types.specs.declared.pcd.Datum.{Datum}
use Rattle.doc_types.specs.declared.pcd.Datum.TheVariants.{Void}
use Rattle.doc_types.specs.declared.platform.Store.{Store}
use Rattle.doc_types.specs.declared.platform.Store.TheVariants.{Vpd}
use Rattle.doc_types.specs.declared.values.PcdRow.{PcdRow}
use Rattle.pcd_values.specs.Parsing.{width}
use Rattle.vpd_image.specs.Entries.{Entry}
use Rattle.build_base.specs.FaultCodes.{VPD_OVERLAP, VPD_TOO_LONG}

-- where every entry ends at the latest
abbrev pub end_limit : ℕ
end_limit = 0x1000000

-- the width of the type, and for a VOID* the maximum
abbrev pub size_by : Datum → ℕ → ℕ
size_by Void most = most
size_by datum most = width datum

unfoldable pub size_of : PcdRow → ℕ
size_of row = size_by row.datum row.max

-- the width of the type, and for a VOID* 8
unfoldable pub align_of : Datum → ℕ
align_of Void = 8
align_of datum = width datum

-- the value, and zeros up to the size
unfoldable pub padded : ℕ → List ℕ → List ℕ
padded size value = take size value ++ replicate (size - length value) 0

-- an entry, and where it starts
pub record Placed : Type 0 where
  pub entry : Entry
  pub offset : ℕ

unfoldable pub end_of : Placed → ℕ
end_of placed = placed.offset + size_of placed.entry.row

-- whether the bytes from start to end and those from first to last, both without the ends, have one
-- in common
unfoldable pub share : ℕ → ℕ → ℕ → ℕ → Bool
share start end first last = nat_lt (max start first) (min end last)

abbrev pub shares : ℕ → ℕ → Placed → Bool
shares start end placed = share start end placed.offset (end_of placed)

-- an entry's written offset, or none for `*`
abbrev pub offset_in : Store → Option ℕ
offset_in (Vpd offset rest) = offset
offset_in store = None

abbrev pub written_offset : Entry → Option ℕ
written_offset entry = offset_in entry.line.store

abbrev pub is_starred : Placed → Bool
is_starred placed = is_none (written_offset placed.entry)
  where
    is_none : Option ℕ → Bool
    is_none None = true
    is_none (Some offset) = false

abbrev pub placed_if : Entry → Option ℕ → List Placed
placed_if entry None = []
placed_if entry (Some offset) = record { entry = entry; offset = offset } ∷ []

-- the entries with a written offset
unfoldable pub written_entries : List Entry → List Placed
written_entries [] = []
written_entries (entry ∷ entries) = placed_if entry (written_offset entry) ++ written_entries entries

-- no byte of these is one of an entry
abbrev pub is_free : List Placed → ℕ → ℕ → Bool
is_free taken size start = not (list_any (shares start (start + size)) taken)

unfoldable pub greatest_end : List Placed → ℕ
greatest_end [] = 0
greatest_end (placed ∷ more) = max (end_of placed) (greatest_end more)

-- the first of so many numbers, from one on, that passes a test, or else the one behind them
unfoldable pub first_from : (ℕ → Bool) → ℕ → ℕ → ℕ
first_from test zero n = n
first_from test (suc count) n = if test n then n else first_from test count (suc n)

-- the least multiple of an alignment at which so many bytes are free; past all ends they are
unfoldable pub least_place : List Placed → ℕ → ℕ → ℕ
least_place taken align size =
    align * first_from (λ n. is_free taken size (align * n)) (greatest_end taken) 0

-- the entries that are placed before one with `*`: those with a written offset, and those above
-- with `*`
abbrev pub placed_before : List Placed → List Placed → List Placed
placed_before fixed above = fixed ++ filter is_starred above

abbrev pub offset_by : List Placed → List Placed → Entry → Option ℕ → ℕ
offset_by fixed above entry (Some offset) = offset
offset_by fixed above entry None =
    least_place (placed_before fixed above) (align_of entry.row.datum) (size_of entry.row)

unfoldable pub placed_next : List Placed → List Placed → Entry → Placed
placed_next fixed above entry =
    record { entry = entry; offset = offset_by fixed above entry (written_offset entry) }

-- entries in line order, behind those above
unfoldable pub placed_from : List Placed → List Placed → List Entry → List Placed
placed_from fixed above [] = above
placed_from fixed above (entry ∷ entries) =
    placed_from fixed (above ++ placed_next fixed above entry ∷ []) entries

-- all entries, each at its place, in line order
unfoldable pub placed : List Entry → List Placed
placed entries = placed_from (written_entries entries) [] entries

-- `start < end` of what two have in common
unfoldable pub overlap_of : Placed → Placed → Fault
overlap_of placed other =
    fault_of VPD_OVERLAP placed.entry.line.at
    (decimal (max placed.offset other.offset) ++ codes " < "
    ++ decimal (min (end_of placed) (end_of other)))

abbrev pub overlap_with : List Placed → Placed → Option Fault
overlap_with above placed = option_map (overlap_of placed)
    (find (shares placed.offset (end_of placed)) above)

-- the first that has a byte in common with one above, and the first such one
unfoldable pub overlap_fault : List Placed → List Placed → Option Fault
overlap_fault above [] = None
overlap_fault above (placed ∷ more) =
    or_else (overlap_with above placed) (overlap_fault (above ++ placed ∷ []) more)

unfoldable pub end_fault : Placed → Option Fault
end_fault placed = if nat_lt end_limit (end_of placed)
    then Some (fault_of VPD_TOO_LONG placed.entry.line.at (decimal (end_of placed))) else None

-- the first that ends too late
unfoldable pub long_fault : List Placed → Option Fault
long_fault [] = None
long_fault (placed ∷ more) = or_else (end_fault placed) (long_fault more)

-- entries of which none ends too late
abbrev pub all_ended : List Placed → Result (List Placed) Fault
all_ended all = unless (long_fault all) all

-- All entries, each at its place, or the first fault. Those with a written offset come first in
-- both faults.
unfoldable pub placed_by : List Entry → Result (List Placed) Fault
placed_by entries = or_fault (overlap_fault [] (written_entries entries))
    (or_fault (long_fault (written_entries entries)) (all_ended (placed entries)))

-- before the first that doesn't start before it
unfoldable pub put_in_order : Placed → List Placed → List Placed
put_in_order placed [] = placed ∷ []
put_in_order placed (other ∷ more) = if nat_le placed.offset other.offset then placed ∷ other ∷ more
    else other ∷ put_in_order placed more

-- by their offsets, and those of one offset in the order that they have
unfoldable pub in_order : List Placed → List Placed
in_order [] = []
in_order (placed ∷ more) = put_in_order placed (in_order more)
