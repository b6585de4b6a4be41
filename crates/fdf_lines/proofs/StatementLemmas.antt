-- Which lines give statements: those of a volume outside of braces, and none of them where there are 65,535.
use Rattle.std.proofs.Common.{◌≡◌, ◌∙◌, ℕ, nat_lt, Bool, true, false, ◌||◌, if◌then◌else◌, List, [], ◌∷◌, ◌++◌, map, Option, Some, None, Result, Ok, Err, codes, refl, ap}
use Rattle.std.specs.List.{flat_map, list_any}
use Rattle.std.specs.Option.{option_map, IsSome}
use Rattle.build_base.specs.Guid.{guid_of}
use Rattle.build_base.specs.FaultText.{fault_of}
use Rattle.build_base.specs.First.{unless}
use Rattle.build_base.specs.Path.{path_field}
use Rattle.build_base.specs.declared.fault.Fault.{Fault}
use Rattle.build_base.specs.declared.guid.Guid.{Guid}
use Rattle.build_base.specs.declared.lines.Taken.{Taken}
use Rattle.macro_expressions.specs.Macros.{without_workspace}
use Rattle.meta_lexer.specs.Fields.{ends_quoted}
use Rattle.meta_lexer.specs.Parts.{field_texts}
use Rattle.meta_lexer.specs.Words.{split_once}
use Rattle.doc_reading.specs.Gathering.{given_in, unless_faulty}
use Rattle.doc_reading.specs.Least.{lesser, least_of}
use Rattle.doc_reading.specs.ValueFields.{number_value, undefined_macro}
use Rattle.doc_reading.specs.Values.{require, of_read_line}
use Rattle.doc_types.specs.Pcds.{pcd_name_of}
use Rattle.doc_types.specs.declared.pcd.PcdName.{PcdName}
use Rattle.doc_types.specs.declared.volume.Align.{Align}
use Rattle.doc_types.specs.declared.volume.InfLine.{InfLine}
use Rattle.doc_types.specs.declared.volume.SectionSource.{SectionSource}
use Rattle.doc_types.specs.declared.volume.SectionSource.TheVariants.{Words}
use Rattle.fdf_volumes.specs.declared.body.SectionWord.{SectionWord}
use Rattle.fdf_volumes.specs.declared.body.SectionWord.TheVariants as section_word_
use Rattle.fdf_volumes.specs.declared.inf_line.InfOptions.{InfOptions}
use Rattle.fdf_words.specs.declared.keys.DeviceWord.{DeviceWord}
use Rattle.fdf_words.specs.declared.keys.DeviceWord.TheVariants as device_word_
use Rattle.fdf_words.specs.declared.keys.VolumeWord.{VolumeWord}
use Rattle.fdf_words.specs.declared.keys.VolumeWord.TheVariants as volume_word_
use Rattle.fdf_words.specs.declared.number.Numbered.{Numbered}
use Rattle.fdf_words.specs.declared.rows.DeviceKey.{DeviceKey}
use Rattle.fdf_words.specs.declared.rows.Row.{Row}
use Rattle.fdf_words.specs.declared.rows.Row.TheVariants as row
use Rattle.fdf_words.specs.declared.rows.Scope.{Scope}
use Rattle.fdf_words.specs.declared.rows.Scope.TheVariants as scope
use Rattle.fdf_words.specs.declared.rows.VolumeKey.{VolumeKey}
use Rattle.fdf_words.specs.declared.rows.VolumeKey.TheVariants as key
use Rattle.fdf_lines.specs.declared.rule_line.RuleKind.{RuleKind}
use Rattle.fdf_lines.specs.declared.rule_line.RuleKind.TheVariants as rule_kind_
use Rattle.fdf_lines.specs.declared.rule_options.RuleOptions.{RuleOptions}
use Rattle.fdf_words.specs.declared.marks.Marks.{Marks}
use Rattle.fdf_words.specs.declared.marks.Open.{Open}
use Rattle.fdf_words.specs.declared.marks.Open.TheVariants.{Shut, InApriori, InFile, InRule}
use Rattle.fdf_volumes.specs.declared.volume_line.Statement.{Statement}
use Rattle.fdf_volumes.specs.declared.volume_line.Statement.TheVariants as statement
use Rattle.fdf_words.specs.declared.words.Options.{Options}
use Rattle.fdf_volumes.specs.Bodies as body
use Rattle.fdf_lines.specs.Counts.{is_statement}
use Rattle.fdf_words.specs.DataBytes.{data_of}
use Rattle.fdf_words.specs.DeviceLines as device
use Rattle.fdf_lines.specs.Grammar.{rank_of, scope_faults, scope_row, line_faults, line_row}
use Rattle.fdf_volumes.specs.InfLines as inf
use Rattle.fdf_words.specs.Keys.{device_word, volume_word, key_pair, is_set}
use Rattle.fdf_words.specs.Numbers.{bad_line, number_of_field}
use Rattle.fdf_lines.specs.Rules as rule
use Rattle.fdf_words.specs.SetLines as setting
use Rattle.fdf_volumes.specs.Statements as file
use Rattle.fdf_volumes.specs.VolumeKeys as volume_key
use Rattle.fdf_volumes.specs.VolumeLines as volume
use Rattle.fdf_words.specs.Words.{is_close, word_of, after_word, after_equals, volume_alignment}
use Rattle.fdf_lines.proofs.CountLemmas.{or_none, or_join}
use Rattle.build_base.specs.FaultCodes.{BAD_INF_LINE, FDF_BAD_FILE, OPEN_QUOTE, TOO_MANY}

-- whether a row is a statement
abbrev states : Option Row → Bool
states None = false
states (Some r) = is_statement r

states_if : (t : Bool) (a b : Option Row) → states a ≡ false → states b ≡ false → states (if t then a else b) ≡ false
states_if true a b e f = e
states_if false a b e f = f

-- those of SET

set_made : (line : Taken) (rank : ℕ) (pcd : Option PcdName) (value : List ℕ) → states (setting.made_set line rank pcd value) ≡ false
set_made line rank None value = refl
set_made line rank (Some pcd) value = refl

set_halves : (line : Taken) (rank : ℕ) (p : Option (List ℕ × List ℕ)) → states (setting.halves_row line rank p) ≡ false
set_halves line rank None = refl
set_halves line rank (Some p) = set_made line rank (pcd_name_of p.0) p.1

set_states : (line : Taken) (rank : ℕ) → states (setting.set_row line rank) ≡ false
unfolding setting.set_row
set_states line rank = set_halves line rank (split_once 61 (after_word line.text))

-- those of a device

device_number : (line : Taken) (known : DeviceKey) (n : Option Numbered) → states (device.made_number line known n) ≡ false
device_number line known None = refl
device_number line known (Some n) = refl

device_tree : (line : Taken) (path : Option (List ℕ)) → states (device.tree_row line path) ≡ false
device_tree line None = refl
device_tree line (Some path) = refl

device_bytes : (line : Taken) (bytes : Option (List ℕ)) → states (device.bytes_row line bytes) ≡ false
device_bytes line None = refl
device_bytes line (Some bytes) = refl

device_keyed : (line : Taken) (value : List ℕ) (word : Option DeviceWord) → states (device.keyed_row line value word) ≡ false
device_keyed line value None = refl
device_keyed line value (Some (device_word_.Number known)) = device_number line known (number_of_field line (device.number_form known) value)
device_keyed line value (Some device_word_.Volume) = refl
device_keyed line value (Some device_word_.Tree) = device_tree line (path_field (without_workspace value))
device_keyed line value (Some device_word_.Bytes) = device_bytes line (data_of value)

device_one : (line : Taken) (pcd : Option PcdName) → states (device.one_row line pcd) ≡ false
device_one line None = refl
device_one line (Some pcd) = refl

device_extent : (line : Taken) (offset size : Result ℕ Fault) → states (device.extent_row line offset size) ≡ false
device_extent line (Err fault) size = refl
device_extent line (Ok offset) (Err fault) = refl
device_extent line (Ok offset) (Ok size) = refl

device_pair : (line : Taken) (a b : List ℕ) (first second : Option PcdName) → states (device.pair_row line a b first second) ≡ false
device_pair line a b None second = device_extent line (number_value line.at a) (number_value line.at b)
device_pair line a b (Some first) None = device_extent line (number_value line.at a) (number_value line.at b)
device_pair line a b (Some first) (Some second) = refl

device_fields : (line : Taken) (fields : List (List ℕ)) → states (device.fields_row line fields) ≡ false
device_fields line [] = refl
device_fields line (a ∷ []) = device_one line (pcd_name_of a)
device_fields line (a ∷ b ∷ []) = device_pair line a b (pcd_name_of a) (pcd_name_of b)
device_fields line (a ∷ b ∷ c ∷ fields) = refl

device_unkeyed : (line : Taken) (word : Option DeviceWord) → states (device.unkeyed_row line word) ≡ false
device_unkeyed line None = device_fields line (field_texts line.text)
device_unkeyed line (Some (device_word_.Number known)) = refl
device_unkeyed line (Some device_word_.Volume) = device_fields line (field_texts line.text)
device_unkeyed line (Some device_word_.Tree) = device_fields line (field_texts line.text)
device_unkeyed line (Some device_word_.Bytes) = device_fields line (field_texts line.text)

device_either : (line : Taken) (p : Option (List ℕ × List ℕ)) → states (device.pair_or_row line p) ≡ false
device_either line None = device_unkeyed line (device_word (word_of line.text))
device_either line (Some p) = device_keyed line p.1 (device_word p.0)

device_states : (line : Taken) → states (device.device_row line) ≡ false
unfolding device.device_row
device_states line = device_either line (key_pair line.text)

-- those of a rule

rule_numbered : (line : Taken) (kind : ℕ) (options : RuleOptions) (source : SectionSource) (number : Result ℕ Fault) → states (rule.numbered_row line kind options source number) ≡ false
rule_numbered line kind options source (Ok number) = refl
rule_numbered line kind options source (Err fault) = refl

rule_path : (line : Taken) (kind : ℕ) (p : RuleOptions × List ℕ × List ℕ) → states (rule.path_row line kind p) ≡ false
rule_path line kind p = rule_numbered line kind p.0 (rule.path_source line p.2) (rule.number_in line p.0 p.1)

rule_text : (line : Taken) (kind : ℕ) (words : List ℕ) (p : RuleOptions × List ℕ × List ℕ) → states (rule.text_row line kind words p) ≡ false
rule_text line kind words p = rule_numbered line kind p.0 (Words words) (rule.number_in line p.0 p.1)

rule_quoted : (line : Taken) (kind : ℕ) (p : Option (List ℕ × List ℕ)) → states (rule.quoted_row line kind p) ≡ false
rule_quoted line kind None = refl
rule_quoted line kind (Some p) = rule_text line kind p.0 (rule.rule_parts p.1)

rule_plain : (line : Taken) (kind : ℕ) (text : List ℕ) → states (rule.plain_row line kind text) ≡ false
rule_plain line kind text = rule_path line kind (rule.rule_parts (after_word text))

rule_worded : (line : Taken) (kind : ℕ) (text : List ℕ) → states (rule.worded_row line kind text) ≡ false
rule_worded line kind text =
    states_if (rule.is_string (word_of text)) (rule.quoted_row line kind (rule.stated_words (after_word text))) (rule.plain_row line kind text)
    (rule_quoted line kind (rule.stated_words (after_word text)))
    (rule_plain line kind text)

rule_kind : (line : Taken) (text : List ℕ) (kind : Option RuleKind) → states (rule.kind_row line text kind) ≡ false
rule_kind line text None = refl
rule_kind line text (Some (rule_kind_.Plain kind)) = rule_plain line kind text
rule_kind line text (Some (rule_kind_.Worded kind)) = rule_worded line kind text
rule_kind line text (Some rule_kind_.Compressed) = refl

rule_inner : (line : Taken) → states (rule.inner_row line) ≡ false
rule_inner line =
    states_if (is_close line.text) (Some row.Closes) (rule.kind_row line (after_word line.text) (rule.rule_kind (word_of line.text))) refl
    (rule_kind line (after_word line.text) (rule.rule_kind (word_of line.text)))

rule_named : (line : Taken) (p : Option (ℕ × List ℕ × Options)) → states (rule.named_row line p) ≡ false
rule_named line None = refl
rule_named line (Some p) = refl

rule_in : (line : Taken) (braces : Open) → states (rule.row_in line braces) ≡ false
rule_in line InRule = rule_inner line
rule_in line Shut = rule_named line (file.file_parts (after_word line.text))
rule_in line InApriori = rule_named line (file.file_parts (after_word line.text))
rule_in line (InFile filled) = rule_named line (file.file_parts (after_word line.text))

rule_states : (line : Taken) (braces : Open) → states (rule.rule_row line braces) ≡ false
unfolding rule.rule_row
rule_states line braces = rule_in line braces

-- the keys of a volume

key_number : (known : VolumeKey) (n : Option Numbered) → states (volume_key.made_number known n) ≡ false
key_number known None = refl
key_number known (Some n) = refl

key_alignment : (bytes : Option ℕ) → states (volume_key.alignment_row bytes) ≡ false
key_alignment None = refl
key_alignment (Some bytes) = refl

key_numbers : (line : Taken) (known : VolumeKey) (value : List ℕ) → states (volume_key.numbers_row line known value) ≡ false
key_numbers line key.FvAlignment value = key_alignment (volume_alignment value)
key_numbers line key.BlockSize value = key_number key.BlockSize (number_of_field line (volume_key.volume_form key.BlockSize) value)
key_numbers line key.NumBlocks value = key_number key.NumBlocks (number_of_field line (volume_key.volume_form key.NumBlocks) value)
key_numbers line key.FvBaseAddress value = key_number key.FvBaseAddress (number_of_field line (volume_key.volume_form key.FvBaseAddress) value)
key_numbers line key.ErasePolarity value = key_number key.ErasePolarity (number_of_field line (volume_key.volume_form key.ErasePolarity) value)

key_name : (guid : Option Guid) → states (volume_key.name_row guid) ≡ false
key_name None = refl
key_name (Some guid) = refl

key_system : (ffs3 : Option Bool) → states (volume_key.system_row ffs3) ≡ false
key_system None = refl
key_system (Some ffs3) = refl

key_force : (on : Option Bool) → states (volume_key.force_row on) ≡ false
key_force None = refl
key_force (Some on) = refl

key_attribute : (bits : ℕ) (on : Option Bool) → states (volume_key.attribute_row bits on) ≡ false
key_attribute bits None = refl
key_attribute bits (Some on) = refl

key_word : (line : Taken) (value : List ℕ) (word : Option VolumeWord) → states (volume_key.word_row line value word) ≡ false
key_word line value None = refl
key_word line value (Some (volume_word_.Number known)) = key_numbers line known value
key_word line value (Some volume_word_.NameGuid) = key_name (guid_of value)
key_word line value (Some volume_word_.FileSystem) = key_system (volume_key.file_system (guid_of value))
key_word line value (Some volume_word_.ForceRebase) = key_force (volume_key.truth_named value)
key_word line value (Some (volume_word_.Attribute bits)) = key_attribute bits (volume_key.truth_named value)

key_states : (line : Taken) (p : Option (List ℕ × List ℕ)) → states (volume.plain_row line p) ≡ false
key_states line None = refl
key_states line (Some p) = key_word line p.1 (volume_word p.0)

-- the lines in braces

body_path : (line : Taken) (kind : ℕ) (align : Align) (path : Option (List ℕ)) → states (body.path_row line kind align path) ≡ false
body_path line kind align None = refl
body_path line kind align (Some path) = refl

body_words : (line : Taken) (kind : ℕ) (align : Align) (value : List ℕ) (words : Option (List ℕ)) → states (body.words_row line kind align value words) ≡ false
body_words line kind align value None = body_path line kind align (path_field (without_workspace value))
body_words line kind align value (Some words) = refl

body_guid : (line : Taken) (align : Align) (guid : Option Guid) (path : Option (List ℕ)) → states (body.guid_row line align guid path) ≡ false
body_guid line align None path = refl
body_guid line align (Some guid) None = refl
body_guid line align (Some guid) (Some path) = refl

body_value : (line : Taken) (align : Align) (word : SectionWord) (value : List ℕ) → states (body.value_row line align word value) ≡ false
body_value line align (section_word_.Plain kind) value = body_path line kind align (path_field (without_workspace value))
body_value line align (section_word_.Worded kind) value = body_words line kind align value (body.words_in_quotes value)
body_value line align section_word_.Nested value = refl
body_value line align section_word_.Named value = refl
body_value line align section_word_.Refused value = refl

body_equals : (line : Taken) (align : Align) (word : SectionWord) (value : Option (List ℕ)) → states (body.equals_row line align word value) ≡ false
body_equals line align word None = refl
body_equals line align word (Some value) = body_value line align word value

body_named : (line : Taken) (align : Align) (word : List ℕ) (value : Option (List ℕ)) → states (body.named_row line align word value) ≡ false
body_named line align word None = refl
body_named line align word (Some value) = body_guid line align (guid_of word) (path_field (without_workspace value))

body_kind : (line : Taken) (align : Align) (text : List ℕ) (word : Option SectionWord) → states (body.kind_row line align text word) ≡ false
body_kind line align text None = refl
body_kind line align text (Some section_word_.Refused) = refl
body_kind line align text (Some section_word_.Named) = body_named line align (word_of (after_word text)) (body.named_value (after_word text))
body_kind line align text (Some (section_word_.Plain kind)) =
    body_equals line align (section_word_.Plain kind) (body.some_text (after_equals (after_word text)))
body_kind line align text (Some (section_word_.Worded kind)) =
    body_equals line align (section_word_.Worded kind) (body.some_text (after_equals (after_word text)))
body_kind line align text (Some section_word_.Nested) = body_equals line align section_word_.Nested (body.some_text (after_equals (after_word text)))

body_aligned : (line : Taken) (p : Option (Align × List ℕ)) → states (body.aligned_row line p) ≡ false
body_aligned line None = refl
body_aligned line (Some p) = body_kind line p.0 p.1 (body.section_word (word_of p.1))

body_states : (line : Taken) → states (body.section_row line) ≡ false
unfolding body.section_row
body_states line = body_aligned line (body.maybe_align (after_word line.text))

whole_states : (path : Option (List ℕ)) → states (body.whole_row path) ≡ false
whole_states None = refl
whole_states (Some path) = refl

member_made : (line : Option InfLine) → states (option_map volume.made_member line) ≡ false
member_made None = refl
member_made (Some line) = refl

member_guid : (guid : Option Guid) → states (file.named_member guid) ≡ false
member_guid None = refl
member_guid (Some guid) = refl

member_word : (word : Option (List ℕ)) → states (file.member_of word) ≡ false
member_word None = refl
member_word (Some word) = member_guid (guid_of word)

member_states : (line : Taken) → states (file.member_row line) ≡ false
unfolding file.member_row
member_states line = member_word (file.member_name (after_word line.text))

apriori_in : (line : Taken) (s : Option Statement) → states (volume.apriori_row_in line s) ≡ false
apriori_in line None = refl
apriori_in line (Some statement.Inf) = member_made (inf.inf_of line)
apriori_in line (Some statement.File) = member_states line
apriori_in line (Some statement.Close) = refl
apriori_in line (Some statement.Apriori) = refl
apriori_in line (Some statement.Section) = refl
apriori_in line (Some statement.BadClose) = refl

file_in : (line : Taken) (s : Option Statement) → states (volume.file_row_in line s) ≡ false
file_in line None = whole_states (path_field (without_workspace line.text))
file_in line (Some statement.Section) = body_states line
file_in line (Some statement.Close) = refl
file_in line (Some statement.BadClose) = refl
file_in line (Some statement.Apriori) = whole_states (path_field (without_workspace line.text))
file_in line (Some statement.Inf) = whole_states (path_field (without_workspace line.text))
file_in line (Some statement.File) = whole_states (path_field (without_workspace line.text))

-- whether an outcome gives a statement
abbrev gives : Result (Option Row) Fault → Bool
gives outcome = list_any is_statement (given_in outcome)

given_row : (r : Option Row) → states r ≡ false → gives (Ok r) ≡ false
given_row None e = refl
given_row (Some r) e = or_none (is_statement r) ∙ e

unless_row : (fault : Option Fault) (r : Option Row) → states r ≡ false → gives (unless fault r) ≡ false
unless_row None r e = given_row r e
unless_row (Some fault) r e = refl

-- a row that is no statement
of_row : (faults : List (Option Fault)) (r : Option Row) → states r ≡ false → gives (unless_faulty faults r) ≡ false
of_row faults r e = unless_row (least_of faults) r e

unless_none : (fault : Option Fault) (r : Option Row) → IsSome fault → gives (unless fault r) ≡ false
unless_none (Some fault) r i = refl
unless_none None r i = absurd cc

-- a line with a fault
of_fault : (faults : List (Option Fault)) (r : Option Row) → IsSome (least_of faults) → gives (unless_faulty faults r) ≡ false
of_fault faults r i = unless_none (least_of faults) r i

some_if : (t : Bool) (a b : Fault) → IsSome (if t then Some b else Some a)
some_if true a b = refl
some_if false a b = refl

some_lesser : (f g : Option Fault) → IsSome g → IsSome (lesser f g)
some_lesser None g i = i
some_lesser (Some a) None i = refl
some_lesser (Some a) (Some b) i = some_if (nat_lt b.code a.code) a b

last_of_three : (a b : Option Fault) (fault : Fault) → IsSome (least_of (a ∷ b ∷ Some fault ∷ []))
last_of_three a b fault = some_lesser a (lesser b (Some fault)) (some_lesser b (Some fault) refl)

-- a statement too many has a fault

abbrev many : Taken → Fault
many line = fault_of TOO_MANY line.at (codes "65536")

full_apriori : (line : Taken) → IsSome (least_of (file.apriori_faults line true))
unfolding file.apriori_faults
full_apriori line = last_of_three (undefined_macro line.at line.text) (require (file.apriori_named (after_word line.text)) (bad_line FDF_BAD_FILE line)) (many line)

full_parts : (line : Taken) (p : Option (InfOptions × List ℕ)) → IsSome (least_of (inf.inf_parts_faults line true p))
full_parts line None = last_of_three (undefined_macro line.at line.text) (Some (bad_line BAD_INF_LINE line)) (many line)
full_parts line (Some p) =
    let path = inf.inf_path_fault line p.1 in
    let template = inf.template_fault line p.0.template in
    let arch = inf.use_fault line p.0.arch in
    let full = Some (many line) in
    some_lesser (file.macro_before line p.1) (least_of (path ∷ template ∷ arch ∷ full ∷ []))
    (some_lesser path (least_of (template ∷ arch ∷ full ∷ [])) (last_of_three template arch (many line)))

full_inf : (line : Taken) → IsSome (least_of (inf.inf_faults line true))
unfolding inf.inf_faults
full_inf line = full_parts line (inf.inf_parts (after_word line.text))

full_file : (line : Taken) → IsSome (least_of (file.file_faults line true))
unfolding file.file_faults
full_file line = last_of_three (undefined_macro line.at line.text) (file.parts_fault line (file.file_parts (after_word line.text))) (many line)

shut_gives : (line : Taken) (s : Option Statement) → gives (unless_faulty (volume.shut_faults line true s) (volume.shut_row line s)) ≡ false
shut_gives line (Some statement.Apriori) = of_fault (file.apriori_faults line true) (file.apriori_row line) (full_apriori line)
shut_gives line (Some statement.Inf) = of_fault (inf.inf_faults line true) (option_map row.Inf (inf.inf_of line)) (full_inf line)
shut_gives line (Some statement.File) = of_fault (file.file_faults line true) (file.file_row line) (full_file line)
shut_gives line (Some statement.Section) = of_row (file.no_form_faults FDF_BAD_FILE line) None refl
shut_gives line (Some statement.Close) = of_row (file.no_form_faults FDF_BAD_FILE line) None refl
shut_gives line (Some statement.BadClose) = of_row (file.no_form_faults FDF_BAD_FILE line) None refl
shut_gives line None = of_row (volume.plain_faults line (key_pair line.text)) (volume.plain_row line (key_pair line.text)) (key_states line (key_pair line.text))

volume_in : (line : Taken) (braces : Open) (s : Option Statement) → gives (unless_faulty (volume.faults_in line braces true s) (volume.row_in line braces s)) ≡ false
volume_in line Shut s = shut_gives line s
volume_in line InApriori s = of_row (volume.apriori_faults_in line s) (volume.apriori_row_in line s) (apriori_in line s)
volume_in line (InFile filled) s = of_row (volume.file_faults_in line filled s) (volume.file_row_in line s) (file_in line s)
volume_in line InRule s = shut_gives line s

volume_gives : (line : Taken) (braces : Open) → gives (unless_faulty (volume.volume_faults line braces true) (volume.volume_row line braces)) ≡ false
unfolding volume.volume_faults volume.volume_row
volume_gives line braces = volume_in line braces (volume.statement_of line.text)

read_if : (t : Bool) (fault : Fault) (faults : List (Option Fault)) (r : Option Row) → gives (unless_faulty faults r) ≡ false
    → gives (unless_faulty (if t then Some fault ∷ [] else faults) r) ≡ false
read_if true fault faults r e = refl
read_if false fault faults r e = e

of_read : (line : Taken) (faults : List (Option Fault)) (r : Option Row) → gives (unless_faulty faults r) ≡ false → gives (unless_faulty (of_read_line line faults) r) ≡ false
of_read line faults r e = read_if (ends_quoted line.text) (fault_of OPEN_QUOTE line.at (codes "\"")) faults r e

scope_gives : (line : Taken) (marks : Marks) (s : Scope) → gives (unless_faulty (scope_faults line marks true s) (scope_row line marks s)) ≡ false
scope_gives line marks scope.Settings = refl
scope_gives line marks (scope.Device name) = of_row (of_read_line line (device.device_faults line marks)) (device.device_row line) (device_states line)
scope_gives line marks (scope.Volume name) =
    of_read line (volume.volume_faults line marks.braces true) (volume.volume_row line marks.braces) (volume_gives line marks.braces)
scope_gives line marks (scope.Rule r) = of_row (of_read_line line (rule.rule_faults line marks)) (rule.rule_row line marks.braces) (rule_states line marks.braces)

line_if : (t : Bool) (faults others : List (Option Fault)) (a b : Option Row) → gives (unless_faulty faults a) ≡ false → gives (unless_faulty others b) ≡ false
    → gives (unless_faulty (if t then faults else others) (if t then a else b)) ≡ false
line_if true faults others a b e f = e
line_if false faults others a b e f = f

line_gives : (line : Taken) (marks : Marks) (s : Scope) → gives (unless_faulty (line_faults line marks true s) (line_row line marks s)) ≡ false
unfolding line_faults line_row
line_gives line marks s =
    let faults = of_read_line line (setting.set_faults line) in
    line_if (is_set line.text) faults (scope_faults line marks true s) (setting.set_row line (rank_of s)) (scope_row line marks s)
    (of_row faults (setting.set_row line (rank_of s)) (set_states line (rank_of s)))
    (scope_gives line marks s)

any_join : {T : Type 0} (test : T → Bool) (xs ys : List T) → list_any test (xs ++ ys) ≡ (list_any test xs || list_any test ys)
any_join test [] ys = refl
any_join test (x ∷ xs) ys = ap (λ t. test x || t) (any_join test xs ys) ∙ or_join (test x) (list_any test xs) (list_any test ys)

-- where there are 65,535 statements a line gives no further one
pub full_gives : (line : Taken) (marks : Marks) (scopes : List Scope)
    → list_any is_statement (flat_map given_in (map (λ s. unless_faulty (line_faults line marks true s) (line_row line marks s)) scopes)) ≡ false
full_gives line marks [] = refl
full_gives line marks (s ∷ scopes) =
    let below = flat_map given_in (map (λ z. unless_faulty (line_faults line marks true z) (line_row line marks z)) scopes) in
    any_join is_statement (given_in (unless_faulty (line_faults line marks true s) (line_row line marks s))) below
    ∙ ap (λ t. t || list_any is_statement below) (line_gives line marks s)
    ∙ full_gives line marks scopes
