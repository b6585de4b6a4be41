-- The lines `SET PCD = value` (EDK II FDF specification, section 3.3).
use Rattle.std.specs.Prelude.{ℕ, ◌==◌, if◌then◌else◌, List, [], ◌∷◌, length, Option, Some, None}
use Rattle.build_base.specs.FaultText.{fault_of}
use Rattle.build_base.specs.declared.fault.Fault.{Fault}
use Rattle.build_base.specs.declared.lines.Taken.{Taken}
use Rattle.meta_lexer.specs.Words.{split_once}
use Rattle.doc_reading.specs.ValueFields.{undefined_macro}
use Rattle.doc_types.specs.Pcds.{pcd_name_of}
use Rattle.doc_types.specs.declared.pcd.PcdName.{PcdName}
use Rattle.fdf_words.specs.declared.rows.Row.{Row}
use Rattle.fdf_words.specs.declared.rows.Row.TheVariants.{Set}
use Rattle.fdf_words.specs.Words.{after_word}
use Rattle.build_base.specs.FaultCodes.{BAD_KEY}

-- a PCD and a value that isn't empty; of another line the text before `=` is told
abbrev pub parts_fault : Taken → List ℕ → Option PcdName → List ℕ → Option Fault
parts_fault line name (Some pcd) value = if length value == 0
    then Some (fault_of BAD_KEY line.at name)
    else None
parts_fault line name None value = Some (fault_of BAD_KEY line.at name)

abbrev pub parts_faults : Taken → List ℕ → List ℕ → List (Option Fault)
parts_faults line name value = undefined_macro line.at name ∷ undefined_macro line.at value
    ∷ parts_fault line name (pcd_name_of name) value ∷ []

abbrev pub made_set : Taken → ℕ → Option PcdName → List ℕ → Option Row
made_set line rank (Some pcd) value =
    Some (Set (record { at = line.at; rank = rank; pcd = pcd; value = value }))
made_set line rank None value = None

-- of a line without `=` what follows the word, or where nothing does the word
abbrev pub told_of : Taken → List ℕ → List ℕ
told_of line text = if length text == 0 then line.text else text

abbrev pub halves_faults : Taken → List ℕ → Option (List ℕ × List ℕ) → List (Option Fault)
halves_faults line text (Some p) = parts_faults line p.0 p.1
halves_faults line text None =
    undefined_macro line.at text ∷ Some (fault_of BAD_KEY line.at (told_of line text)) ∷ []

abbrev pub halves_row : Taken → ℕ → Option (List ℕ × List ℕ) → Option Row
halves_row line rank (Some p) = made_set line rank (pcd_name_of p.0) p.1
halves_row line rank None = None

unfoldable pub set_faults : Taken → List (Option Fault)
set_faults line = halves_faults line (after_word line.text) (split_once 61 (after_word line.text))

unfoldable pub set_row : Taken → ℕ → Option Row
set_row line rank = halves_row line rank (split_once 61 (after_word line.text))
