-- Values that fit their places in the image of vital product data. The format of the image is this
-- project's own.
use Rattle.std.specs.Prelude.{◌≡◌, ℕ, ◌+◌, ◌-◌, ◌≤◌, List, length, map, take, drop, replicate, All}
use Rattle.doc_types.specs.declared.values.PcdRow.{PcdRow}
use Rattle.doc_types.specs.declared.vpd.Vpd.{Vpd}
use Rattle.vpd_image.specs.declared.ask.VpdAsk.{VpdAsk}
use Rattle.vpd_image.specs.Places.{Placed, size_of, end_of, placed, in_order}
use Rattle.vpd_image.specs.Vpd.{place_of, entries_of}

-- A row's value is no longer than its place: the width of its type, and for a VOID* the maximum.
pub record IsSized (row : PcdRow) : Type 0 where
  pub fits : length row.value ≤ size_of row

-- An entry's place lies within an image. Its value stands there, and zeros up to the place's end.
pub record IsReadAt (image : List ℕ) (placed : Placed) : Type 0 where
  pub inside : end_of placed ≤ length image
  pub value : take (length placed.entry.row.value) (drop placed.offset image)
      ≡ placed.entry.row.value
  pub zeros : take (size_of placed.entry.row - length placed.entry.row.value)
      (drop (placed.offset + length placed.entry.row.value) image)
      ≡ replicate (size_of placed.entry.row - length placed.entry.row.value) 0

-- The places are those of the entries in the order of their offsets, and each entry is read there.
pub record IsRead (ask : VpdAsk) (vpd : Vpd) : Type 0 where
  pub places : vpd.places ≡ map place_of (in_order (placed (entries_of ask)))
  pub read : All (IsReadAt vpd.image) (placed (entries_of ask))
