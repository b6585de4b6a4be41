-- What a firmware volume holds (UEFI PI specification, volume 3, sections 3.2.1 to 3.2.3).
use Rattle.std.specs.Prelude.{◌≡◌, ℕ, zero, suc, ◌+◌, ◌-◌, ◌^◌, ◌<◌, ◌==◌, Bool, if◌then◌else◌, List, [], ◌∷◌, ◌++◌, length, take, drop, Result, Ok, Err}
use Rattle.std.specs.List.{list_all}
use Rattle.build_base.specs.Runs.{free_byte}
use Rattle.fv_compose.specs.Place.{align_up}
use Rattle.volume_reader.specs.declared.listed.Listed.{Listed}
use Rattle.volume_reader.specs.declared.listed.VolumeList.{VolumeList}
use Rattle.volume_reader.specs.declared.listed.ReadRefusal.{ReadRefusal}
use Rattle.volume_reader.specs.declared.listed.ReadRefusal.TheVariants.{BadFile, WantOfMemory}
use Rattle.volume_reader.specs.declared.volume.Held.{Held}
use Rattle.volume_reader.specs.Head.{fv_length, header_length, is_ffs3, erase_polarity}
use Rattle.volume_reader.specs.Files.{is_file, stated_size, listed_file}

-- files before those that a volume holds, unless one of these is wrong
abbrev pub with_files : List Listed → Result Held ℕ → Result Held ℕ
with_files files (Ok held) = Ok (record { files = files ++ held.files; free = held.free })
with_files files (Err place) = Err place

-- whether all of these are the byte of erased flash under this erase polarity
unfoldable pub are_erased : ℕ → List ℕ → Bool
are_erased erase bytes = list_all (λ b. b == free_byte erase) bytes

-- What a volume holds from a place on, where its files are at most so many less one, or the place
-- of the first wrong one. Where all bytes to the volume's end are erased they are free; past the
-- end there are none, and none is free. Else a file stands there, and the next follows at the least
-- multiple of 8 from its end on.
unfoldable pub held_from : ℕ → Bool → ℕ → List ℕ → ℕ → Result Held ℕ
held_from zero ffs3 erase volume at = Err at
held_from (suc n) ffs3 erase volume at =
    if are_erased erase (drop at volume) then Ok (record { files = []; free = length volume - at })
    else if is_file ffs3 erase (drop at volume) then
    with_files (listed_file ffs3 at (drop at volume) ∷ [])
    (held_from n ffs3 erase volume (align_up 8 (at + stated_size (drop at volume))))
    else Err at

abbrev pub list_of : List ℕ → Result Held ℕ → Result VolumeList ℕ
list_of bytes (Ok held) =
    Ok
    (record {
      length = fv_length bytes;
      ffs3 = is_ffs3 bytes;
      files = held.files;
      free =
          held.free;
    })
list_of bytes (Err place) = Err place

-- What the volume holds that these bytes begin with, or the place of its first wrong file. Files
-- have some bytes each, so they are at most as many as the volume's.
unfoldable pub volume_list : List ℕ → Result VolumeList ℕ
volume_list bytes =
    let volume = take (fv_length bytes) bytes in
    list_of bytes (held_from (length volume + 1) (is_ffs3 bytes) (erase_polarity bytes) volume
    (align_up 8 (header_length bytes)))

-- the refusal is that of this outcome, unless memory was wanting
abbrev pub Fails : {T : Type 0} → ReadRefusal → Result T ℕ → Type 0
Fails (BadFile place) outcome = outcome ≡ Err place
Fails WantOfMemory outcome = Unit {0}

-- The answer is this outcome, unless memory was wanting.
abbrev pub Reads : {T : Type 0} → Result T ReadRefusal → Result T ℕ → Type 0
Reads (Ok x) outcome = outcome ≡ Ok x
Reads (Err e) outcome = Fails e outcome

-- the place of a wrong file is that of a byte
abbrev pub IsNear : ReadRefusal → Type 0
IsNear (BadFile place) = place < 2 ^ 63
IsNear WantOfMemory = Unit {0}
