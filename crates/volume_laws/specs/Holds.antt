-- What a volume that is read holds, as a relation on its bytes (UEFI PI specification, volume 3,
-- sections 3.2.1 to 3.2.3).
use Rattle.std.specs.Prelude.{◌≡◌, ℕ, ◌+◌, ◌-◌, Bool, true, false, List, [], ◌∷◌, length, take, drop}
use Rattle.fv_compose.specs.Place.{align_up}
use Rattle.volume_reader.specs.declared.listed.Listed.{Listed}
use Rattle.volume_reader.specs.declared.listed.VolumeList.{VolumeList}
use Rattle.volume_reader.specs.Head.{fv_length, header_length, is_ffs3, erase_polarity}
use Rattle.volume_reader.specs.Files.{is_file, listed_file}
use Rattle.volume_reader.specs.Volume.{are_erased}

-- A file stands at this place of a volume, and this row tells it.
pub record IsFileAt (ffs3 : Bool) (erase : ℕ) (volume : List ℕ) (place : ℕ) (row : Listed)
    : Type 0 where
  pub file : is_file ffs3 erase (drop place volume) ≡ true
  pub told : row ≡ listed_file ffs3 place (drop place volume)

-- All bytes from this place on are erased, and so many are free.
pub record IsFreeFrom (erase : ℕ) (volume : List ℕ) (place free : ℕ) : Type 0 where
  pub erased : are_erased erase (drop place volume) ≡ true
  pub rest : free ≡ length volume - place

-- Neither a file stands at this place, nor are all bytes from it on erased.
pub record IsWrongAt (ffs3 : Bool) (erase : ℕ) (volume : List ℕ) (place : ℕ) : Type 0 where
  pub file : is_file ffs3 erase (drop place volume) ≡ false
  pub erased : are_erased erase (drop place volume) ≡ false

-- These are a volume's files from an end on, and so many bytes are free behind them. Each file
-- starts at the least multiple of 8 from the end before it on. So do the free bytes, which are
-- erased.
pub data AreFilesFrom (ffs3 : Bool) (erase : ℕ) (volume : List ℕ)
    : ℕ → List Listed → ℕ → Type 0 where
  none : (end free : ℕ) → IsFreeFrom erase volume (align_up 8 end) free
      → AreFilesFrom ffs3 erase volume end [] free
  some : (end free : ℕ) (row : Listed) (rows : List Listed)
      → IsFileAt ffs3 erase volume (align_up 8 end) row
      → AreFilesFrom ffs3 erase volume (row.place + row.size) rows free
      → AreFilesFrom ffs3 erase volume end (row ∷ rows) free

-- From an end on files stand in this way up to a place that is wrong.
pub data IsWrongFrom (ffs3 : Bool) (erase : ℕ) (volume : List ℕ) : ℕ → ℕ → Type 0 where
  here : (end place : ℕ) → place ≡ align_up 8 end → IsWrongAt ffs3 erase volume place
      → IsWrongFrom ffs3 erase volume end place
  later : (end place : ℕ) (row : Listed) → IsFileAt ffs3 erase volume (align_up 8 end) row
      → IsWrongFrom ffs3 erase volume (row.place + row.size) place
      → IsWrongFrom ffs3 erase volume end place

-- The volume that these bytes begin with holds this: its files stand within its length, from the
-- end of its header on.
pub record Holds (bytes : List ℕ) (list : VolumeList) : Type 0 where
  pub length : list.length ≡ fv_length bytes
  pub ffs3 : list.ffs3 ≡ is_ffs3 bytes
  pub files : AreFilesFrom (is_ffs3 bytes) (erase_polarity bytes) (take (fv_length bytes) bytes)
      (header_length bytes) list.files list.free

-- this is the place of its first wrong file
abbrev pub IsWrong : List ℕ → ℕ → Type 0
IsWrong bytes place =
    IsWrongFrom (is_ffs3 bytes) (erase_polarity bytes) (take (fv_length bytes) bytes)
    (header_length bytes) place
