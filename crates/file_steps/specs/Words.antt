-- The content of a section that a text gives (UEFI PI specification, volume 3, section 3.2.5; EDK II
-- FDF specification, FILE statements).
use Rattle.std.specs.Prelude.{ℕ, ◌==◌, List, [], ◌∷◌, ◌++◌, if◌then◌else◌}
use Rattle.std.specs.List.{flat_map}
use Rattle.byteorder.specs.Endian.{little_bytes}
use Rattle.doc_types.specs.Standard.{EFI_SECTION_VERSION}

-- a text of 16-bit units, and a final zero
unfoldable pub wide_text : List ℕ → List ℕ
wide_text text = flat_map (λ byte. byte ∷ 0 ∷ []) text ++ 0 ∷ 0 ∷ []

-- a version section begins with its build number
abbrev pub words_bytes : ℕ → ℕ → List ℕ → List ℕ
words_bytes kind number text = if kind == EFI_SECTION_VERSION
    then little_bytes 2 number ++ wide_text text else wide_text text
