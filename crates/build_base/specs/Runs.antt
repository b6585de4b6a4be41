-- Images as runs. The rule is this project's own; an erased byte is that of the erase polarity
-- (UEFI PI specification, volume 3, section 3.2.1).
use Rattle.std.specs.Prelude.{ℕ, ◌+◌, ◌==◌, ◌||◌, ◌&&◌, Bool, true, if◌then◌else◌, List, [], ◌∷◌, ◌++◌, length, replicate}
use Rattle.build_base.specs.declared.run.Run.{Run}
use Rattle.build_base.specs.declared.run.Run.TheVariants.{Fill, Bytes}

-- the byte of erased flash under an erase polarity
abbrev pub free_byte : ℕ → ℕ
free_byte erase = if erase == 0x00 then 0x00 else 0xFF

abbrev pub is_free : ℕ → Bool
is_free byte = byte == 0x00 || byte == 0xFF

abbrev pub run_bytes : Run → List ℕ
run_bytes (Fill byte count) = replicate count byte
run_bytes (Bytes bytes) = bytes

-- the image: the bytes of all runs, one after another
unfoldable pub runs_bytes : List Run → List ℕ
runs_bytes [] = []
runs_bytes (run ∷ runs) = run_bytes run ++ runs_bytes runs

abbrev pub run_kept : Run → ℕ
run_kept (Fill byte count) = 0
run_kept (Bytes bytes) = length bytes

-- how many bytes stand in runs of bytes
unfoldable pub kept_bytes : List Run → ℕ
kept_bytes [] = 0
kept_bytes (run ∷ runs) = run_kept run + kept_bytes runs

abbrev pub is_blank : Run → Bool
is_blank (Fill byte count) = is_free byte
is_blank (Bytes bytes) = true

-- whether each fill is of erased flash
unfoldable pub are_blank : List Run → Bool
are_blank [] = true
are_blank (run ∷ runs) = is_blank run && are_blank runs

-- what is written so far, of which so many bytes stand in runs of bytes, over flash whose erased
-- byte is this
pub record Written : Type 0 where
  pub bytes : List ℕ
  pub kept : ℕ
  pub free : ℕ
