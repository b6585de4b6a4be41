-- The values that a flash description gives to PCDs (EDK II FDF specification, SET statements and
-- the PCDs of addresses, sizes and regions).
use Rattle.std.specs.Prelude.{ℕ, ◌+◌, Bool, true, false, ◌||◌, if◌then◌else◌, List, [], ◌∷◌, ◌++◌, Option, Some, None, unwrap_or, decimal, take}
use Rattle.std.specs.List.{position_or_len}
use Rattle.doc_reading.specs.Reading.{last_of}
use Rattle.build_base.specs.declared.fault.Place.{Place}
use Rattle.doc_types.specs.declared.pcd.PcdName.{PcdName}
use Rattle.doc_types.specs.declared.pcd.PcdSet.{PcdSet}
use Rattle.fdf_words.specs.declared.rows.LineRead.{LineRead}
use Rattle.fdf_words.specs.declared.rows.LineRead.TheVariants.{Heads, Body}
use Rattle.fdf_words.specs.declared.rows.Scope.{Scope}
use Rattle.fdf_words.specs.declared.rows.Row.{Row}
use Rattle.fdf_words.specs.declared.rows.Row.TheVariants as row
use Rattle.fdf_words.specs.declared.rows.DeviceKey.{DeviceKey}
use Rattle.fdf_words.specs.declared.rows.DeviceKey.TheVariants.{BaseAddress}
use Rattle.fdf_words.specs.declared.rows.RegionPcds.{RegionPcds}
use Rattle.fdf_words.specs.declared.rows.RegionStart.{RegionStart}
use Rattle.flash_document.specs.Columns.{row_at, in_row, column}
use Rattle.flash_document.specs.Devices.{numbers, number_of}

abbrev pub is_heads : LineRead → Bool
is_heads (Heads at scopes) = true
is_heads (Body rows) = false

-- the lines down to the next heads
abbrev pub section_lines : List LineRead → List LineRead
section_lines lines = take (position_or_len is_heads lines) lines

-- an automatic assignment: its value is the number in decimal
abbrev pub automatic : Place → PcdName → ℕ → PcdSet
automatic at pcd n = record { at = at; rank = 3; pcd = pcd; value = decimal n }

abbrev pub pcd_set : Place → ℕ → Option PcdName → List PcdSet
pcd_set at n None = []
pcd_set at n (Some pcd) = automatic at pcd n ∷ []

abbrev pub is_some_number : List ℕ → Bool
is_some_number [] = false
is_some_number (n ∷ ns) = true

-- a line of these states a key
abbrev pub has_key : DeviceKey → ℕ → List LineRead → Bool
has_key key k [] = false
has_key key k (line ∷ lines) = is_some_number (in_row (numbers key) (row_at k line))
    || has_key key k lines

abbrev pub starts : Row → List RegionStart
starts (row.Region start) = start ∷ []
starts row = []

-- the region that the next line is of
abbrev pub region_above : ℕ → List LineRead → Option RegionStart
region_above k above = last_of (column starts k above)

-- the first takes the region's address, the second its size
abbrev pub region_sets : RegionPcds → ℕ → Option RegionStart → List PcdSet
region_sets pcds base None = []
region_sets pcds base (Some start) = automatic pcds.at pcds.first (base + start.offset)
    ∷ pcd_set pcds.at start.size pcds.second

-- what a row sets, by the device's base address and the lines above and below; a key that a later
-- line states sets nothing
abbrev pub sets_at : ℕ → ℕ → List LineRead → List LineRead → Option Row → List PcdSet
sets_at k base above rest (Some (row.Set set)) = set ∷ []
sets_at k base above rest (Some (row.Number n)) =
    if has_key n.key k rest then [] else pcd_set n.at n.number n.pcd
sets_at k base above rest (Some (row.Pcds pcds)) = region_sets pcds base (region_above k above)
sets_at k base above rest row = []

abbrev pub line_sets : List LineRead → LineRead → List LineRead → ℕ → List ℕ → List PcdSet
line_sets above line rest k [] = []
line_sets above line rest k (base ∷ bases) =
    sets_at k base above rest (row_at k line) ++ line_sets above line rest (k + 1) bases

-- line by line, and for each line by its heads
abbrev pub section_sets : List ℕ → List LineRead → List LineRead → List PcdSet
section_sets bases above [] = []
section_sets bases above (line ∷ lines) =
    line_sets above line lines 0 bases ++ section_sets bases (above ++ line ∷ []) lines

abbrev pub bases_from : ℕ → List Scope → List LineRead → List ℕ
bases_from k [] lines = []
bases_from k (scope ∷ scopes) lines =
    unwrap_or (number_of BaseAddress k lines) 0 ∷ bases_from (k + 1) scopes lines

abbrev pub sets_below : LineRead → List LineRead → List PcdSet
sets_below (Heads at scopes) lines = section_sets (bases_from 0 scopes lines) [] lines
sets_below (Body rows) lines = []

-- over the whole file
abbrev pub all_sets : List LineRead → List PcdSet
all_sets [] = []
all_sets (line ∷ lines) = sets_below line (section_lines lines) ++ all_sets lines
