-- The lines of a device (EDK II FDF specification, section 3.5).
use Rattle.std.specs.Prelude.{ℕ, Bool, false, not, List, [], ◌∷◌, Option, Some, None, Result, Ok, Err}
use Rattle.build_base.specs.FaultText.{fault_of}
use Rattle.build_base.specs.Path.{path_field}
use Rattle.build_base.specs.declared.fault.Fault.{Fault}
use Rattle.build_base.specs.declared.lines.Taken.{Taken}
use Rattle.macro_expressions.specs.Macros.{without_workspace}
use Rattle.meta_lexer.specs.Faults.{first_fault}
use Rattle.meta_lexer.specs.Parts.{field_texts}
use Rattle.doc_reading.specs.Least.{fault_in}
use Rattle.doc_reading.specs.ValueFields.{number_value, undefined_macro}
use Rattle.doc_reading.specs.Values.{require}
use Rattle.doc_types.specs.Pcds.{pcd_name_of}
use Rattle.doc_types.specs.declared.pcd.PcdName.{PcdName}
use Rattle.fdf_words.specs.declared.keys.DeviceWord.{DeviceWord}
use Rattle.fdf_words.specs.declared.keys.DeviceWord.TheVariants as word
use Rattle.fdf_words.specs.declared.number.NumberForm.{NumberForm}
use Rattle.fdf_words.specs.declared.number.NumberForm.TheVariants as form
use Rattle.fdf_words.specs.declared.number.Numbered.{Numbered}
use Rattle.fdf_words.specs.declared.rows.Content as content_type
use Rattle.fdf_words.specs.declared.rows.Content.TheVariants as content
use Rattle.fdf_words.specs.declared.rows.DeviceKey.{DeviceKey}
use Rattle.fdf_words.specs.declared.rows.DeviceKey.TheVariants as key
use Rattle.fdf_words.specs.declared.rows.Row.{Row}
use Rattle.fdf_words.specs.declared.rows.Row.TheVariants as row
use Rattle.fdf_words.specs.declared.marks.Marks.{Marks}
use Rattle.fdf_words.specs.declared.marks.Waiting.{Waiting}
use Rattle.fdf_words.specs.declared.marks.Waiting.TheVariants.{NoRegion, Started, Named}
use Rattle.fdf_words.specs.DataBytes.{data_of}
use Rattle.fdf_words.specs.Keys.{device_word, key_pair}
use Rattle.fdf_words.specs.Numbers.{bad_line, number_faults, number_of_field}
use Rattle.fdf_words.specs.Words.{word_of}
use Rattle.build_base.specs.FaultCodes.{BAD_KEY, BAD_PATH, BAD_REGION}

abbrev pub number_form : DeviceKey → NumberForm
number_form key.BaseAddress = form.Address
number_form key.Size = form.Size
number_form key.ErasePolarity = form.Polarity
number_form key.BlockSize = form.Plain
number_form key.NumBlocks = form.Plain

-- BlockSize and NumBlocks stand in pairs
abbrev pub misplaced : Bool → DeviceKey → Bool
misplaced pair key.BlockSize = pair
misplaced pair key.NumBlocks = not pair
misplaced pair key.BaseAddress = false
misplaced pair key.Size = false
misplaced pair key.ErasePolarity = false

abbrev pub made_number : Taken → DeviceKey → Option Numbered → Option Row
made_number line key (Some numbered) =
    Some
    (row.Number (record { at = line.at; key = key; number = numbered.number; pcd = numbered.pcd }))
made_number line key None = None

-- PCDs stand behind their region's line, and only once
abbrev pub pcds_fault : Taken → Waiting → Option Fault
pcds_fault line Started = None
pcds_fault line Named = Some (bad_line BAD_REGION line)
pcds_fault line NoRegion = Some (bad_line BAD_REGION line)

-- what fills a region stands behind them, and only once
abbrev pub content_fault : Taken → Waiting → Option Fault
content_fault line Started = None
content_fault line Named = None
content_fault line NoRegion = Some (bad_line BAD_REGION line)

abbrev pub made_content : Taken → content_type.Content → Option Row
made_content line filled = Some (row.Content (record { at = line.at; content = filled }))

-- `FV = NAME`, whatever the name is
abbrev pub held_faults : Taken → Waiting → List ℕ → List (Option Fault)
held_faults line waiting value = undefined_macro line.at value ∷ content_fault line waiting ∷ []

-- `FILE = path`
abbrev pub tree_faults : Taken → Waiting → List ℕ → List (Option Fault)
tree_faults line waiting value =
    require (path_field (without_workspace value)) (fault_of BAD_PATH line.at value)
    ∷ content_fault line waiting ∷ []

abbrev pub tree_row : Taken → Option (List ℕ) → Option Row
tree_row line (Some path) = made_content line (content.Tree path)
tree_row line None = None

-- `DATA = { bytes }`
abbrev pub bytes_faults : Taken → Waiting → List ℕ → List (Option Fault)
bytes_faults line waiting value = undefined_macro line.at value
    ∷ require (data_of value) (bad_line BAD_REGION line) ∷ content_fault line waiting ∷ []

abbrev pub bytes_row : Taken → Option (List ℕ) → Option Row
bytes_row line (Some bytes) = made_content line (content.Bytes bytes)
bytes_row line None = None

-- `KEY = VALUE`
abbrev pub keyed_faults : Taken → Marks → List ℕ → List ℕ → Option DeviceWord → List (Option Fault)
keyed_faults line marks key value (Some (word.Number known)) =
    number_faults line (number_form known) key value (misplaced marks.pair known)
keyed_faults line marks key value (Some word.Volume) = held_faults line marks.waiting value
keyed_faults line marks key value (Some word.Tree) = tree_faults line marks.waiting value
keyed_faults line marks key value (Some word.Bytes) = bytes_faults line marks.waiting value
keyed_faults line marks key value None =
    undefined_macro line.at value ∷ Some (fault_of BAD_KEY line.at key) ∷ []

abbrev pub keyed_row : Taken → List ℕ → Option DeviceWord → Option Row
keyed_row line value (Some (word.Number known)) =
    made_number line known (number_of_field line (number_form known) value)
keyed_row line value (Some word.Volume) = made_content line (content.Volume value)
keyed_row line value (Some word.Tree) = tree_row line (path_field (without_workspace value))
keyed_row line value (Some word.Bytes) = bytes_row line (data_of value)
keyed_row line value None = None

abbrev pub no_form_faults : Taken → List (Option Fault)
no_form_faults line = undefined_macro line.at line.text ∷ Some (bad_line BAD_REGION line) ∷ []

-- `PCD`
abbrev pub one_faults : Taken → Waiting → Option PcdName → List (Option Fault)
one_faults line waiting (Some pcd) = pcds_fault line waiting ∷ []
one_faults line waiting None = no_form_faults line

abbrev pub one_row : Taken → Option PcdName → Option Row
one_row line (Some pcd) = Some (row.Pcds (record { at = line.at; first = pcd; second = None }))
one_row line None = None

-- `PCD|PCD`, or `Offset|Size`
abbrev pub pair_faults : Taken → Waiting → List ℕ → List ℕ → Option PcdName → Option PcdName
    → List (Option Fault)
pair_faults line waiting a b (Some first) (Some second) = pcds_fault line waiting ∷ []
pair_faults line waiting a b first second =
    fault_in (number_value line.at a) ∷ fault_in (number_value line.at b) ∷ []

abbrev pub extent_row : Taken → Result ℕ Fault → Result ℕ Fault → Option Row
extent_row line (Ok offset) (Ok size) =
    Some (row.Region (record { at = line.at; offset = offset; size = size }))
extent_row line (Ok offset) (Err fault) = None
extent_row line (Err fault) size = None

abbrev pub pair_row : Taken → List ℕ → List ℕ → Option PcdName → Option PcdName → Option Row
pair_row line a b (Some first) (Some second) =
    Some (row.Pcds (record { at = line.at; first = first; second = Some second }))
pair_row line a b first second = extent_row line (number_value line.at a) (number_value line.at b)

abbrev pub other_faults : Taken → List (List ℕ) → List (Option Fault)
other_faults line fields = first_fault (undefined_macro line.at) fields
    ∷ Some (bad_line BAD_REGION line)
    ∷ []

abbrev pub fields_faults : Taken → Waiting → List (List ℕ) → List (Option Fault)
fields_faults line waiting (a ∷ []) = one_faults line waiting (pcd_name_of a)
fields_faults line waiting (a ∷ b ∷ []) =
    pair_faults line waiting a b (pcd_name_of a) (pcd_name_of b)
fields_faults line waiting fields = other_faults line fields

abbrev pub fields_row : Taken → List (List ℕ) → Option Row
fields_row line (a ∷ []) = one_row line (pcd_name_of a)
fields_row line (a ∷ b ∷ []) = pair_row line a b (pcd_name_of a) (pcd_name_of b)
fields_row line fields = None

-- a number's key without `=` is a fault of the key
abbrev pub unkeyed_faults : Taken → Waiting → Option DeviceWord → List (Option Fault)
unkeyed_faults line waiting (Some (word.Number known)) =
    undefined_macro line.at line.text ∷ Some (fault_of BAD_KEY line.at (word_of line.text)) ∷ []
unkeyed_faults line waiting _ = fields_faults line waiting (field_texts line.text)

abbrev pub unkeyed_row : Taken → Option DeviceWord → Option Row
unkeyed_row line (Some (word.Number known)) = None
unkeyed_row line _ = fields_row line (field_texts line.text)

abbrev pub pair_or_faults : Taken → Marks → Option (List ℕ × List ℕ) → List (Option Fault)
pair_or_faults line marks (Some p) = keyed_faults line marks p.0 p.1 (device_word p.0)
pair_or_faults line marks None = unkeyed_faults line marks.waiting (device_word (word_of line.text))

abbrev pub pair_or_row : Taken → Option (List ℕ × List ℕ) → Option Row
pair_or_row line (Some p) = keyed_row line p.1 (device_word p.0)
pair_or_row line None = unkeyed_row line (device_word (word_of line.text))

unfoldable pub device_faults : Taken → Marks → List (Option Fault)
device_faults line marks = pair_or_faults line marks (key_pair line.text)

unfoldable pub device_row : Taken → Option Row
device_row line = pair_or_row line (key_pair line.text)
