-- The packed form of a key: a byte for the variant, and then its fields. A number has its bytes
-- lowest first, a path the eight bytes of its length before its own. The form is this project's
-- own.
use Rattle.std.specs.Prelude.{◌≡◌, ℕ, ◌<◌, ◌^◌, List, [], ◌∷◌, ◌++◌, length}
use Rattle.std.specs.Int.{to_le_bytes, w32, w64}
use Rattle.doc_types.specs.declared.choice.Module.{Module}
use Rattle.step_pack.specs.declared.key.Key.{Key}
use Rattle.step_pack.specs.declared.key.Key.TheVariants as key
use Rattle.step_pack.specs.Keys.{arch_byte, variant, text_cmp, key_cmp}

abbrev pub packed_number : ℕ → List ℕ
packed_number n = to_le_bytes w32 n

abbrev pub packed_path : List ℕ → List ℕ
packed_path path = to_le_bytes w64 (length path) ++ path

abbrev pub packed_module : Module → List ℕ
packed_module m = arch_byte m.arch ∷ packed_path m.inf

abbrev pub packed_fields : Key → List ℕ
packed_fields (key.Dec path) = packed_path path
packed_fields (key.Inf path) = packed_path path
packed_fields (key.Choice m) = packed_module m
packed_fields (key.Values m) = packed_module m
packed_fields (key.Code m) = packed_module m
packed_fields (key.Depex m) = packed_module m
packed_fields (key.File v i) = packed_number v ++ packed_number i
packed_fields (key.Volume v) = packed_number v
packed_fields (key.Device d) = packed_number d
packed_fields (key.Based v) = packed_number v
packed_fields _ = []

unfoldable pub packed : Key → List ℕ
packed k = variant k ∷ packed_fields k

-- its numbers have 32 bits
abbrev pub HasNumbers : Key → Type 0
HasNumbers (key.File v i) = (v < 2 ^ 32) × (i < 2 ^ 32)
HasNumbers (key.Volume v) = v < 2 ^ 32
HasNumbers (key.Device d) = d < 2 ^ 32
HasNumbers (key.Based v) = v < 2 ^ 32
HasNumbers _ = Unit {0}

-- their order is that of their packed forms, byte by byte
abbrev pub StandByBytes : Key → Key → Type 0
StandByBytes a b = text_cmp (packed a) (packed b) ≡ key_cmp a b
