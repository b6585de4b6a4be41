-- How a GUID prints: as the registry writes it, and as an initializer in C (UEFI specification,
-- appendix A).
use Rattle.std.specs.Prelude.{ℕ, List, [], ◌∷◌, ◌++◌, take, drop, codes}
use Rattle.std.specs.List.{flat_map}
use Rattle.uuid.specs.Parts.{swap_fields}
use Rattle.uuid.specs.Text.{hyphenated_text, lower}
use Rattle.build_base.specs.declared.guid.Guid.{Guid}
use Rattle.pcd_values.specs.Printing.{number_text}

-- in lower case; the first three fields are little-endian
unfoldable pub guid_text : Guid → List ℕ
guid_text guid = hyphenated_text lower (swap_fields guid.0)

-- bytes as numbers between commas
abbrev pub byte_numbers : List ℕ → List ℕ
byte_numbers [] = []
byte_numbers (b ∷ bs) = number_text (b ∷ [])
    ++ flat_map (λ c. codes ", " ++ number_text (c ∷ [])) bs

-- `{A, B, C, {D0, D1, D2, D3, D4, D5, D6, D7}}`: the u32, the two u16 and the eight bytes
unfoldable pub initializer : List ℕ → List ℕ
initializer bytes =
    codes "{" ++ number_text (take 4 bytes) ++ codes ", " ++ number_text (take 2 (drop 4 bytes))
    ++ codes ", "
    ++ number_text (take 2 (drop 6 bytes)) ++ codes ", {" ++ byte_numbers (drop 8 bytes)
    ++ codes "}}"
