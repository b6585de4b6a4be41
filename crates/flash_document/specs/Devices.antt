-- A device as its section states it (EDK II FDF specification, [FD] sections).
use Rattle.std.specs.Prelude.{ℕ, ◌+◌, ◌*◌, ◌^◌, ◌-◌, Bool, true, false, min, if◌then◌else◌, List, [], ◌∷◌, ◌++◌, fold, Option, Some, None}
use Rattle.doc_reading.specs.Reading.{last_of}
use Rattle.build_base.specs.declared.fault.Place.{Place}
use Rattle.fdf_words.specs.declared.rows.LineRead.{LineRead}
use Rattle.fdf_words.specs.declared.rows.Row.{Row}
use Rattle.fdf_words.specs.declared.rows.Row.TheVariants as row
use Rattle.fdf_words.specs.declared.rows.DeviceKey.{DeviceKey}
use Rattle.fdf_words.specs.declared.rows.DeviceKey.TheVariants.{BaseAddress, Size, ErasePolarity, BlockSize, NumBlocks}
use Rattle.fdf_words.specs.declared.rows.DeviceNumber.{DeviceNumber}
use Rattle.fdf_words.specs.declared.rows.RegionContent.{RegionContent}
use Rattle.build_base.specs.First.{or_else}
use Rattle.flash_document.specs.declared.device.BlockSum.{BlockSum}
use Rattle.flash_document.specs.declared.stated.StatedDevice.{StatedDevice}
use Rattle.flash_document.specs.declared.stated.StatedRegion.{StatedRegion}
use Rattle.flash_document.specs.Columns.{row_at, column}

-- a number past 64 bits counts as the greatest of 64 bits
abbrev pub capped : ℕ → ℕ
capped n = min n (2 ^ 64 - 1)

abbrev pub is_key : DeviceKey → DeviceKey → Bool
is_key BaseAddress BaseAddress = true
is_key Size Size = true
is_key ErasePolarity ErasePolarity = true
is_key BlockSize BlockSize = true
is_key NumBlocks NumBlocks = true
is_key key other = false

-- the number of a row
abbrev pub number_in : Option Row → Option DeviceNumber
number_in (Some (row.Number n)) = Some n
number_in row = None

-- the number that a row gives to a key
abbrev pub numbers : DeviceKey → Row → List ℕ
numbers key (row.Number n) = if is_key n.key key then n.number ∷ [] else []
numbers key row = []

-- the last line of a key holds
abbrev pub number_of : DeviceKey → ℕ → List LineRead → Option ℕ
number_of key k lines = last_of (column (numbers key) k lines)

abbrev pub keys_in : Row → List DeviceNumber
keys_in (row.Number n) = n ∷ []
keys_in row = []

-- blocks of a size, as many as the next number says
pub record Blocks : Type 0 where
  pub size : ℕ
  pub count : ℕ

abbrev pub counted : Option ℕ → ℕ → List Blocks
counted None count = []
counted (Some size) count = record { size = size; count = count } ∷ []

abbrev pub pairs_by : (Option ℕ → List Blocks) → Option ℕ → DeviceKey → ℕ → List Blocks
pairs_by more waiting BlockSize n = more (Some n)
pairs_by more waiting NumBlocks n = counted waiting n ++ more None
pairs_by more waiting key n = more waiting

-- the pairs of BlockSize and NumBlocks, where a size waits for its count
abbrev pub pairs : List DeviceNumber → Option ℕ → List Blocks
pairs [] waiting = []
pairs (n ∷ ns) waiting = pairs_by (pairs ns) waiting n.key n.number

abbrev pub block_pairs : ℕ → List LineRead → List Blocks
block_pairs k lines = pairs (column keys_in k lines) None

abbrev pub first_size : List Blocks → Option ℕ
first_size [] = None
first_size (b ∷ bs) = Some b.size

abbrev pub with_blocks : ℕ → Blocks → ℕ
with_blocks total b = capped (total + capped (b.size * b.count))

-- the products of all pairs together
abbrev pub total_of : List Blocks → ℕ
total_of pairs = fold with_blocks 0 pairs

-- the pairs that are summed up: a size that waits, the first size, the total
abbrev pub counted_with : Option ℕ → ℕ → Option ℕ → ℕ → BlockSum
counted_with first total None n = record { waiting = None; first = first; total = total }
counted_with first total (Some size) n =
    record {
      waiting = None;
      first = or_else first (Some size);
      total =
          with_blocks total (record { size = size; count = n });
    }

abbrev pub sum_counted : BlockSum → ℕ → BlockSum
sum_counted sum n = counted_with sum.first sum.total sum.waiting n

abbrev pub keyed_with : BlockSum → DeviceKey → ℕ → BlockSum
keyed_with sum BlockSize n = record sum { waiting = Some n }
keyed_with sum NumBlocks n = sum_counted sum n
keyed_with sum key n = sum

abbrev pub sum_with : BlockSum → DeviceNumber → BlockSum
sum_with sum n = keyed_with sum n.key n.number

abbrev pub content_or : Option Row → Option RegionContent → Option RegionContent
content_or (Some (row.Region start)) later = None
content_or (Some (row.Content content)) later = Some content
content_or row later = later

-- the content that stands before the next region
abbrev pub content_in : ℕ → List LineRead → Option RegionContent
content_in k [] = None
content_in k (line ∷ lines) = content_or (row_at k line) (content_in k lines)

abbrev pub region_at : Option Row → Option RegionContent → List StatedRegion
region_at (Some (row.Region start)) content =
    record { at = start.at; offset = start.offset; size = start.size; content = content } ∷ []
region_at row content = []

-- the regions, each with its content
abbrev pub regions_of : ℕ → List LineRead → List StatedRegion
regions_of k [] = []
regions_of k (line ∷ lines) = region_at (row_at k line) (content_in k lines) ++ regions_of k lines

unfoldable pub device_of : Place → List ℕ → ℕ → List LineRead → StatedDevice
device_of at name k lines = record {
  at = at;
  name = name;
  base = number_of BaseAddress k lines;
  size = number_of Size k lines;
  erase = number_of ErasePolarity k lines;
  first_block = first_size (block_pairs k lines);
  blocks = total_of (block_pairs k lines);
  regions = regions_of k lines;
}
