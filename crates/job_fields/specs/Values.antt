-- What each value of a build's words has to be (EDK II Build specification, options of `build`).
use Rattle.std.specs.Prelude.{ℕ, ◌+◌, ◌-◌, ◌*◌, ◌≤◌, ◌&&◌, ◌||◌, ◌==◌, nat_le, nat_lt, Bool, true, false, List, [], ◌∷◌, length, take, drop, Option, Some, None, if◌then◌else◌}
use Rattle.std.specs.List.{list_all, position_or_len}
use Rattle.std.specs.Option.{is_some}
use Rattle.build_base.specs.Path.{is_between}
use Rattle.doc_types.specs.Arches.{arch_named}
use Rattle.doc_types.specs.Pcds.{pcd_name_of}
use Rattle.doc_types.specs.declared.arch.Arch.{Arch}
use Rattle.doc_types.specs.declared.arch.Arch.TheVariants.{Common}
use Rattle.meta_lexer.specs.Lines.{is_plain}
use Rattle.meta_lexer.specs.Words.{is_identifier}

-- letters, digits, `_` and `-`
unfoldable pub is_name_byte : ℕ → Bool
is_name_byte byte =
    is_between 97 122 byte || is_between 65 90 byte || is_between 48 57 byte || byte == 95
    || byte == 45

-- the name of a target, a tag, a SKU or an image: 1 to 64 such bytes
unfoldable pub is_name : List ℕ → Bool
is_name text = nat_le 1 (length text) && nat_le (length text) 64 && list_all is_name_byte text

-- where the first `=` stands, or the length
abbrev pub equals_at : List ℕ → ℕ
equals_at text = position_or_len (λ byte. byte == 61) text

-- a macro: `NAME=VALUE` or `NAME`; a value is on one line of bytes that may stand in a file
unfoldable pub is_define : List ℕ → Bool
is_define text = is_identifier (take (equals_at text) text)
    && list_all is_plain (drop (equals_at text) text)

-- the value of a PCD: `Space.Name=Value`
unfoldable pub is_setting : List ℕ → Bool
is_setting text =
    nat_lt (equals_at text) (length text)
    && is_some (pcd_name_of (take (equals_at text) text))
    && list_all is_plain (drop (equals_at text) text)

-- `common` is none that is built
abbrev pub is_built : Option Arch → Bool
is_built None = false
is_built (Some Common) = false
is_built (Some arch) = true

abbrev pub is_arch : List ℕ → Bool
is_arch text = is_built (arch_named text)

-- a decimal number from 1 to 64, without a leading zero
unfoldable pub workers_of : List ℕ → Option ℕ
workers_of [] = None
workers_of (a ∷ []) = if is_between 49 57 a then Some (a - 48) else None
workers_of (a ∷ (b ∷ [])) =
    if is_between 49 57 a && is_between 48 57 b && nat_le (10 * (a - 48) + (b - 48)) 64
    then Some (10 * (a - 48) + (b - 48)) else None
workers_of (a ∷ (b ∷ (c ∷ rest))) = None

-- as many workers as a build may have
pub record AreWorkers (number : ℕ) : Type 0 where
  pub least : 1 ≤ number
  pub most : number ≤ 64
