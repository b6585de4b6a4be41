-- A GUID of a registry text: the first three fields little-endian, then eight bytes.
use Rattle.std.specs.Prelude.{ℕ, List, Option, Some, None}
use Rattle.uuid.specs.Text.{parsed_hyphenated}
use Rattle.uuid.specs.Parts.{swap_fields}
use Rattle.build_base.specs.declared.guid.Guid.{Guid}

abbrev pub guid_from : Option (List ℕ) → Option Guid
guid_from None = None
guid_from (Some bytes) = Some (record { 0 = swap_fields bytes })

unfoldable pub guid_of : List ℕ → Option Guid
guid_of text = guid_from (parsed_hyphenated text)
