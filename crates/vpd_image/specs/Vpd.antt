-- The image of vital product data, and the text that lists what stands in it. Both formats are this
-- project's own.
use Rattle.std.specs.Prelude.{◌≡◌, ℕ, ◌+◌, false, List, ◌++◌, map, take, drop, Result, Ok, codes, decimal}
use Rattle.std.specs.Int.{w32, to_le_bytes}
use Rattle.std.specs.List.{AllPairs, flat_map}
use Rattle.build_base.specs.declared.fault.Fault.{Fault}
use Rattle.build_base.specs.First.{and_then}
use Rattle.build_base.specs.Pieces.{Piece, image_of}
use Rattle.doc_types.specs.declared.pcd.Datum.TheVariants.{U32}
use Rattle.doc_types.specs.declared.vpd.Vpd.{Vpd}
use Rattle.doc_types.specs.declared.vpd.VpdPlace.{VpdPlace}
use Rattle.pcd_values.specs.Printing.{printed}
use Rattle.vpd_image.specs.declared.ask.VpdAsk.{VpdAsk}
use Rattle.vpd_image.specs.Entries.{Entry, entries, line_label, sku_of}
use Rattle.vpd_image.specs.Places.{Placed, size_of, padded, share, greatest_end, in_order, placed, placed_by}

-- what an entry holds
abbrev pub entry_bytes : Placed → List ℕ
entry_bytes placed = padded (size_of placed.entry.row) placed.entry.row.value

abbrev pub piece_of : Placed → Piece
piece_of placed = record { start = placed.offset; bytes = entry_bytes placed }

-- each byte is that of the entry that holds its place, and else FF; the image ends with the last of
-- them
unfoldable pub image_with : List Placed → List ℕ
image_with all = image_of 0xFF (map piece_of all) (greatest_end all)

-- a word behind a blank
unfoldable pub in_row : List ℕ → List ℕ
in_row word = codes " " ++ word

-- `Space.Name SKU 0xOFFSET SIZE V`, the size in decimal
unfoldable pub map_line : Placed → List ℕ
map_line placed =
    line_label placed.entry.line ++ in_row (printed U32 (to_le_bytes w32 placed.offset))
    ++ in_row (decimal (size_of placed.entry.row))
    ++ in_row (printed placed.entry.row.datum placed.entry.row.value) ++ codes "\n"

abbrev pub place_of : Placed → VpdPlace
place_of placed =
    record {
      pcd = placed.entry.line.pcd;
      sku = sku_of placed.entry.line;
      offset = placed.offset;
      size = size_of placed.entry.row;
    }

-- what is made of entries by their offsets
unfoldable pub vpd_from : List Placed → Vpd
vpd_from all =
    record { image = image_with all; map = flat_map map_line all; places = map place_of all }

-- what is made of entries, or their first fault
unfoldable pub vpd_by : List Entry → Result Vpd Fault
vpd_by all = and_then (placed_by all) (λ placed. Ok (vpd_from (in_order placed)))

unfoldable pub entries_of : VpdAsk → List Entry
entries_of ask = entries ask.arches ask.values.rows ask.platform.pcds

-- the image of a platform, its map and its places, or the first fault
unfoldable pub vpd_of : VpdAsk → Result Vpd Fault
vpd_of ask = vpd_by (entries_of ask)

-- no byte is one of two places
abbrev pub AreApart : List VpdPlace → Type 0
AreApart places =
    AllPairs (λ p q. share p.offset (p.offset + p.size) q.offset (q.offset + q.size) ≡ false) places

abbrev pub read_at : List ℕ → VpdPlace → List ℕ
read_at image place = take place.size (drop place.offset image)

-- at each place stands what its entry holds
abbrev pub AreReadOf : List Entry → Vpd → Type 0
AreReadOf all vpd = map (read_at vpd.image) vpd.places ≡ map entry_bytes (in_order (placed all))

abbrev pub AreRead : VpdAsk → Vpd → Type 0
AreRead ask vpd = AreReadOf (entries_of ask) vpd
