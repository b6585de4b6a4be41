-- What holds of the rows and the heads of every line.
use Rattle.std.proofs.Common.{◌≡◌, ℕ, Bool, true, false, not, ◌==◌, if◌then◌else◌, List, [], ◌∷◌, map, fold, Option, Some, None, Result, Ok, Err, refl, sym}
use Rattle.std.specs.Prelude.{is_some, IsTrue, IfOk}
use Rattle.std.specs.List.{All, list_all, flat_map}
use Rattle.std.specs.Option.{IfSome, option_map}
use Rattle.std.proofs.lemmas.Bool.{and_parts, not-true}
use Rattle.std.proofs.lemmas.List.Elements.{All-nil, All-cons, All-append, All-head, All-tail}
use Rattle.build_base.specs.First.{unless}
use Rattle.build_base.specs.Guid.{guid_of}
use Rattle.build_base.specs.Path.{path_field}
use Rattle.build_base.specs.declared.fault.Fault.{Fault}
use Rattle.build_base.specs.declared.guid.Guid.{Guid}
use Rattle.build_base.specs.declared.lines.Taken.{Taken}
use Rattle.macro_expressions.specs.Macros.{without_workspace}
use Rattle.meta_lexer.specs.Lookup.{lookup}
use Rattle.meta_lexer.specs.Words.{same_word}
use Rattle.meta_lexer.specs.declared.head.Head.{Head}
use Rattle.doc_reading.specs.Gathering.{given_in, gathered, least_in, unless_faulty}
use Rattle.doc_reading.specs.Grammar.{Read, entered, gave, heads_entered, body_given, entry_read, body_read, form_read, more_read, read_of, scopes_above}
use Rattle.doc_reading.specs.Least.{least_of}
use Rattle.doc_reading.specs.declared.form.LineForm.{LineForm}
use Rattle.doc_reading.specs.declared.form.LineForm.TheVariants as form
use Rattle.doc_reading.specs.Forms.{form_of}
use Rattle.doc_types.specs.Standard.{EFI_SECTION_FREEFORM_SUBTYPE_GUID}
use Rattle.doc_types.specs.declared.pcd.PcdName.{PcdName}
use Rattle.doc_types.specs.declared.volume.Align.{Align}
use Rattle.doc_types.specs.declared.volume.InfLine.{InfLine}
use Rattle.doc_types.specs.declared.volume.SectionSource.TheVariants.{Template, Words, Refused}
use Rattle.fdf_volumes.specs.Bodies.{path_row, words_row, guid_row, value_row, equals_row, named_row, kind_row, aligned_row, section_row, section_words, section_word, named_value, whole_row, words_in_quotes, maybe_align}
use Rattle.fdf_words.specs.DeviceLines as device
use Rattle.fdf_lines.specs.Grammar.{flash_grammar, line_row, scope_row, rank_of, rows_of_flash}
use Rattle.fdf_words.specs.Keys.{key_pair, is_set, device_word, volume_word}
use Rattle.fdf_lines.specs.Rules as rule
use Rattle.fdf_lines.specs.Sections.{is_image_name, head_meaning, parts_meaning, meaning_of, meaning_scope, plain_meaning, device_meaning, volume_meaning, rule_meaning, rule_scope, section_named}
use Rattle.fdf_words.specs.SetLines.{made_set, halves_row, set_row}
use Rattle.fdf_lines.specs.Standing.{marks_below}
use Rattle.fdf_volumes.specs.Statements.{named_file, parts_row, file_row, named_member, member_of, member_name, member_row, made_apriori, apriori_named, apriori_row, file_parts}
use Rattle.fdf_volumes.specs.VolumeKeys as volume
use Rattle.fdf_volumes.specs.VolumeLines as lines
use Rattle.fdf_words.specs.declared.rows.Row.{Row}
use Rattle.fdf_words.specs.declared.rows.Row.TheVariants as row
use Rattle.fdf_words.specs.declared.rows.Scope.{Scope}
use Rattle.fdf_words.specs.declared.rows.Scope.TheVariants as scope
use Rattle.fdf_volumes.specs.InfLines.{inf_of}
use Rattle.fdf_words.specs.Words.{is_close, word_of, after_word}
use Rattle.fdf_volumes.specs.declared.body.SectionWord.{SectionWord}
use Rattle.fdf_volumes.specs.declared.body.SectionWord.TheVariants as section
use Rattle.fdf_words.specs.declared.keys.DeviceWord.{DeviceWord}
use Rattle.fdf_words.specs.declared.keys.DeviceWord.TheVariants as device_word_
use Rattle.fdf_words.specs.declared.keys.VolumeWord.{VolumeWord}
use Rattle.fdf_words.specs.declared.keys.VolumeWord.TheVariants as volume_word_
use Rattle.fdf_words.specs.declared.number.Numbered.{Numbered}
use Rattle.fdf_words.specs.declared.rows.DeviceKey.{DeviceKey}
use Rattle.fdf_words.specs.declared.rows.VolumeKey.{VolumeKey}
use Rattle.fdf_words.specs.declared.rows.VolumeKey.TheVariants as volume_key
use Rattle.fdf_lines.specs.declared.rule_line.RuleKind.{RuleKind}
use Rattle.fdf_lines.specs.declared.rule_line.RuleKind.TheVariants as rule_kind_
use Rattle.fdf_lines.specs.declared.rule_options.RuleOptions.{RuleOptions}
use Rattle.fdf_lines.specs.declared.section.HeadMeaning.TheVariants as meaning
use Rattle.fdf_lines.specs.declared.section.FlashSection.{FlashSection}
use Rattle.fdf_lines.specs.declared.section.FlashSection.TheVariants as flash_section
use Rattle.fdf_words.specs.declared.marks.Marks.{Marks}
use Rattle.fdf_words.specs.declared.marks.Open.{Open}
use Rattle.fdf_words.specs.declared.marks.Open.TheVariants as braces_
use Rattle.fdf_volumes.specs.declared.volume_line.Statement.{Statement}
use Rattle.fdf_volumes.specs.declared.volume_line.Statement.TheVariants as statement
use Rattle.fdf_words.specs.declared.words.Options.{Options}
use Rattle.doc_types.specs.declared.arch.Arch.{Arch}
use Rattle.doc_types.specs.declared.module_type.ModuleType.{ModuleType}
use Rattle.flash_document.specs.Flash.{line_of}
use Rattle.flash_document.specs.Shape.{SourceFits, GuidFits, IsRuled}
use Rattle.flash_document.proofs.CarryLemmas.{LineHas}

-- a section has a GUID where it is to have one, a file its name, and a rule's section names no file
-- and no volume
abbrev pub RowFits : Row → Type 0
RowFits (row.Section s) = is_some s.guid ≡ (s.kind == EFI_SECTION_FREEFORM_SUBTYPE_GUID)
RowFits (row.RuleSection s) = GuidFits s s.source × SourceFits 0 s.source × IsRuled s.source
RowFits row.Ignored = Unit {0}
RowFits (row.Set x) = Unit {0}
RowFits (row.Number x) = Unit {0}
RowFits (row.Region x) = Unit {0}
RowFits (row.Pcds x) = Unit {0}
RowFits (row.Content x) = Unit {0}
RowFits (row.Setting x) = Unit {0}
RowFits (row.Apriori x) = Unit {0}
RowFits (row.Member x) = Unit {0}
RowFits (row.Inf x) = Unit {0}
RowFits (row.File head) = is_some head.guid ≡ true
RowFits (row.Whole x) = Unit {0}
RowFits row.Closes = Unit {0}
RowFits (row.RuleFile x) = Unit {0}

-- a device and a volume have the name of a file
abbrev pub ScopeFits : Scope → Type 0
ScopeFits scope.Settings = Unit {0}
ScopeFits (scope.Device name) = IsTrue (is_image_name name)
ScopeFits (scope.Volume name) = IsTrue (is_image_name name)
ScopeFits (scope.Rule rule) = Unit {0}

-- an entry of a table passes what all its entries pass
looked_up : {T : Type 0} (test : T → Bool) (table : List (List ℕ × T)) (word : List ℕ) → list_all (λ e. test e.1) table ≡ true → IfSome (lookup table word) (λ x. test x ≡ true)
unfolding lookup
looked_up test [] word all = tt
looked_up test (entry ∷ entries) word all =
    let both = and_parts (test entry.1) (list_all (λ e. test e.1) entries) all in
    elim (same_word word entry.0) as (λ b. IfSome (if b then Some entry.1 else lookup entries word) (λ x. test x ≡ true)) [
      | true ↦ both.0
      | false ↦ looked_up test entries word both.1
    ]

abbrev unnamed : SectionWord → Bool
unnamed (section.Plain kind) = not (kind == EFI_SECTION_FREEFORM_SUBTYPE_GUID)
unnamed (section.Worded kind) = not (kind == EFI_SECTION_FREEFORM_SUBTYPE_GUID)
unnamed section.Nested = true
unnamed section.Named = true
unnamed section.Refused = true

no_guid : (kind : ℕ) → not (kind == EFI_SECTION_FREEFORM_SUBTYPE_GUID) ≡ true → false ≡ (kind == EFI_SECTION_FREEFORM_SUBTYPE_GUID)
no_guid kind h = sym (not-true (kind == EFI_SECTION_FREEFORM_SUBTYPE_GUID) h)

-- sections
path_fits : (line : Taken) (kind : ℕ) (align : Align) (path : Option (List ℕ)) → not (kind == EFI_SECTION_FREEFORM_SUBTYPE_GUID) ≡ true → IfSome (path_row line kind align path) RowFits
path_fits line kind align (Some path) h = no_guid kind h
path_fits line kind align None h = tt

words_fit : (line : Taken) (kind : ℕ) (align : Align) (value : List ℕ) (words : Option (List ℕ)) → not (kind == EFI_SECTION_FREEFORM_SUBTYPE_GUID) ≡ true → IfSome (words_row line kind align value words) RowFits
words_fit line kind align value (Some words) h = no_guid kind h
words_fit line kind align value None h = path_fits line kind align (path_field (without_workspace value)) h

guid_fits : (line : Taken) (align : Align) (guid : Option Guid) (path : Option (List ℕ)) → IfSome (guid_row line align guid path) RowFits
guid_fits line align (Some guid) (Some path) = refl
guid_fits line align (Some guid) None = tt
guid_fits line align None path = tt

value_fits : (line : Taken) (align : Align) (word : SectionWord) (value : List ℕ) → unnamed word ≡ true → IfSome (value_row line align word value) RowFits
value_fits line align (section.Plain kind) value h = path_fits line kind align (path_field (without_workspace value)) h
value_fits line align (section.Worded kind) value h = words_fit line kind align value (words_in_quotes value) h
value_fits line align section.Nested value h = refl
value_fits line align section.Named value h = tt
value_fits line align section.Refused value h = tt

equals_fits : (line : Taken) (align : Align) (word : SectionWord) (value : Option (List ℕ)) → unnamed word ≡ true → IfSome (equals_row line align word value) RowFits
equals_fits line align word (Some value) h = value_fits line align word value h
equals_fits line align word None h = tt

named_fits : (line : Taken) (align : Align) (word : List ℕ) (value : Option (List ℕ)) → IfSome (named_row line align word value) RowFits
named_fits line align word (Some value) = guid_fits line align (guid_of word) (path_field (without_workspace value))
named_fits line align word None = tt

kind_fits : (line : Taken) (align : Align) (text : List ℕ) (word : Option SectionWord) → IfSome word (λ w. unnamed w ≡ true) → IfSome (kind_row line align text word) RowFits
kind_fits line align text (Some section.Refused) h = tt
kind_fits line align text (Some section.Named) h = named_fits line align _ (named_value _)
kind_fits line align text (Some (section.Plain kind)) h = equals_fits line align (section.Plain kind) _ h
kind_fits line align text (Some (section.Worded kind)) h = equals_fits line align (section.Worded kind) _ h
kind_fits line align text (Some section.Nested) h = equals_fits line align section.Nested _ h
kind_fits line align text None h = tt

word_fits : (word : List ℕ) → IfSome (section_word word) (λ w. unnamed w ≡ true)
unfolding section_word
word_fits word = looked_up unnamed section_words word refl

aligned_fits : (line : Taken) (o : Option (Align × List ℕ)) → IfSome (aligned_row line o) RowFits
aligned_fits line (Some p) = kind_fits line p.0 p.1 (section_word (word_of p.1)) (word_fits (word_of p.1))
aligned_fits line None = tt

section_fits : (line : Taken) → IfSome (section_row line) RowFits
unfolding section_row
section_fits line = aligned_fits line (maybe_align (after_word line.text))

-- the other lines of a volume
whole_fits : (o : Option (List ℕ)) → IfSome (whole_row o) RowFits
whole_fits (Some path) = tt
whole_fits None = tt

inf_fits : (o : Option InfLine) → IfSome (option_map row.Inf o) RowFits
inf_fits (Some inf) = tt
inf_fits None = tt

member_fits : (o : Option InfLine) → IfSome (option_map lines.made_member o) RowFits
member_fits (Some inf) = tt
member_fits None = tt

named_file_fits : (line : Taken) (kind : ℕ) (guid : Option Guid) (options : Options) → IfSome (named_file line kind guid options) RowFits
named_file_fits line kind (Some guid) options = refl
named_file_fits line kind None options = tt

parts_fit : (line : Taken) (o : Option (ℕ × List ℕ × Options)) → IfSome (parts_row line o) RowFits
parts_fit line (Some p) = named_file_fits line p.0 (guid_of p.1) p.2
parts_fit line None = tt

file_fits : (line : Taken) → IfSome (file_row line) RowFits
unfolding file_row
file_fits line = parts_fit line (file_parts (after_word line.text))

named_member_fits : (o : Option Guid) → IfSome (named_member o) RowFits
named_member_fits (Some guid) = tt
named_member_fits None = tt

member_of_fits : (o : Option (List ℕ)) → IfSome (member_of o) RowFits
member_of_fits (Some word) = named_member_fits (guid_of word)
member_of_fits None = tt

member_row_fits : (line : Taken) → IfSome (member_row line) RowFits
unfolding member_row
member_row_fits line = member_of_fits (member_name (after_word line.text))

made_apriori_fits : (line : Taken) (o : Option Bool) → IfSome (made_apriori line o) RowFits
made_apriori_fits line (Some pei) = tt
made_apriori_fits line None = tt

apriori_fits : (line : Taken) → IfSome (apriori_row line) RowFits
unfolding apriori_row
apriori_fits line = made_apriori_fits line (apriori_named (after_word line.text))

volume_number_fits : (known : VolumeKey) (o : Option Numbered) → IfSome (volume.made_number known o) RowFits
volume_number_fits known (Some numbered) = tt
volume_number_fits known None = tt

alignment_fits : (o : Option ℕ) → IfSome (volume.alignment_row o) RowFits
alignment_fits (Some bytes) = tt
alignment_fits None = tt

numbers_fit : (line : Taken) (known : VolumeKey) (value : List ℕ) → IfSome (volume.numbers_row line known value) RowFits
numbers_fit line volume_key.FvAlignment value = alignment_fits _
numbers_fit line volume_key.BlockSize value = volume_number_fits volume_key.BlockSize _
numbers_fit line volume_key.NumBlocks value = volume_number_fits volume_key.NumBlocks _
numbers_fit line volume_key.FvBaseAddress value = volume_number_fits volume_key.FvBaseAddress _
numbers_fit line volume_key.ErasePolarity value = volume_number_fits volume_key.ErasePolarity _

name_fits : (o : Option Guid) → IfSome (volume.name_row o) RowFits
name_fits (Some guid) = tt
name_fits None = tt

system_fits : (o : Option Bool) → IfSome (volume.system_row o) RowFits
system_fits (Some ffs3) = tt
system_fits None = tt

force_fits : (o : Option Bool) → IfSome (volume.force_row o) RowFits
force_fits (Some on) = tt
force_fits None = tt

attribute_fits : (bits : ℕ) (o : Option Bool) → IfSome (volume.attribute_row bits o) RowFits
attribute_fits bits (Some on) = tt
attribute_fits bits None = tt

volume_word_fits : (line : Taken) (value : List ℕ) (o : Option VolumeWord) → IfSome (volume.word_row line value o) RowFits
volume_word_fits line value (Some (volume_word_.Number known)) = numbers_fit line known value
volume_word_fits line value (Some volume_word_.NameGuid) = name_fits (guid_of value)
volume_word_fits line value (Some volume_word_.FileSystem) = system_fits (volume.file_system (guid_of value))
volume_word_fits line value (Some volume_word_.ForceRebase) = force_fits _
volume_word_fits line value (Some (volume_word_.Attribute bits)) = attribute_fits bits _
volume_word_fits line value None = tt

keyed_fits : (line : Taken) (o : Option (List ℕ × List ℕ)) → IfSome (lines.plain_row line o) RowFits
keyed_fits line (Some p) = volume_word_fits line p.1 (volume_word p.0)
keyed_fits line None = tt

shut_fits : (line : Taken) (o : Option Statement) → IfSome (lines.shut_row line o) RowFits
shut_fits line (Some statement.Apriori) = apriori_fits line
shut_fits line (Some statement.Inf) = inf_fits (inf_of line)
shut_fits line (Some statement.File) = file_fits line
shut_fits line (Some statement.Section) = tt
shut_fits line (Some statement.Close) = tt
shut_fits line (Some statement.BadClose) = tt
shut_fits line None = keyed_fits line (key_pair line.text)

apriori_in_fits : (line : Taken) (o : Option Statement) → IfSome (lines.apriori_row_in line o) RowFits
apriori_in_fits line (Some statement.Inf) = member_fits (inf_of line)
apriori_in_fits line (Some statement.File) = member_row_fits line
apriori_in_fits line (Some statement.Close) = tt
apriori_in_fits line (Some statement.Apriori) = tt
apriori_in_fits line (Some statement.Section) = tt
apriori_in_fits line (Some statement.BadClose) = tt
apriori_in_fits line None = tt

whole_in_fits : (line : Taken) → IfSome (lines.whole_row_in line) RowFits
whole_in_fits line = whole_fits (path_field (without_workspace line.text))

file_in_fits : (line : Taken) (o : Option Statement) → IfSome (lines.file_row_in line o) RowFits
file_in_fits line (Some statement.Section) = section_fits line
file_in_fits line (Some statement.Close) = tt
file_in_fits line (Some statement.BadClose) = tt
file_in_fits line (Some statement.Apriori) = whole_in_fits line
file_in_fits line (Some statement.Inf) = whole_in_fits line
file_in_fits line (Some statement.File) = whole_in_fits line
file_in_fits line None = whole_in_fits line

in_fits : (line : Taken) (braces : Open) (o : Option Statement) → IfSome (lines.row_in line braces o) RowFits
in_fits line braces_.InApriori o = apriori_in_fits line o
in_fits line (braces_.InFile filled) o = file_in_fits line o
in_fits line braces_.Shut o = shut_fits line o
in_fits line braces_.InRule o = shut_fits line o

volume_fits : (line : Taken) (braces : Open) → IfSome (lines.volume_row line braces) RowFits
unfolding lines.volume_row
volume_fits line braces = in_fits line braces (lines.statement_of line.text)

-- the lines of a device
number_fits : (line : Taken) (known : DeviceKey) (o : Option Numbered) → IfSome (device.made_number line known o) RowFits
number_fits line known (Some numbered) = tt
number_fits line known None = tt

tree_fits : (line : Taken) (o : Option (List ℕ)) → IfSome (device.tree_row line o) RowFits
tree_fits line (Some path) = tt
tree_fits line None = tt

bytes_fit : (line : Taken) (o : Option (List ℕ)) → IfSome (device.bytes_row line o) RowFits
bytes_fit line (Some bytes) = tt
bytes_fit line None = tt

device_word_fits : (line : Taken) (value : List ℕ) (o : Option DeviceWord) → IfSome (device.keyed_row line value o) RowFits
device_word_fits line value (Some (device_word_.Number known)) = number_fits line known _
device_word_fits line value (Some device_word_.Volume) = tt
device_word_fits line value (Some device_word_.Tree) = tree_fits line (path_field (without_workspace value))
device_word_fits line value (Some device_word_.Bytes) = bytes_fit line _
device_word_fits line value None = tt

one_fits : (line : Taken) (o : Option PcdName) → IfSome (device.one_row line o) RowFits
one_fits line (Some pcd) = tt
one_fits line None = tt

extent_fits : (line : Taken) (offset size : Result ℕ Fault) → IfSome (device.extent_row line offset size) RowFits
extent_fits line (Ok offset) (Ok size) = tt
extent_fits line (Ok offset) (Err fault) = tt
extent_fits line (Err fault) size = tt

pair_fits : (line : Taken) (a b : List ℕ) (first second : Option PcdName) → IfSome (device.pair_row line a b first second) RowFits
pair_fits line a b (Some first) (Some second) = tt
pair_fits line a b (Some first) None = extent_fits line _ _
pair_fits line a b None (Some second) = extent_fits line _ _
pair_fits line a b None None = extent_fits line _ _

fields_fit : (line : Taken) (fields : List (List ℕ)) → IfSome (device.fields_row line fields) RowFits
fields_fit line [] = tt
fields_fit line (a ∷ []) = one_fits line _
fields_fit line (a ∷ b ∷ []) = pair_fits line a b _ _
fields_fit line (a ∷ b ∷ c ∷ fields) = tt

unkeyed_fits : (line : Taken) (o : Option DeviceWord) → IfSome (device.unkeyed_row line o) RowFits
unkeyed_fits line (Some (device_word_.Number known)) = tt
unkeyed_fits line (Some device_word_.Volume) = fields_fit line _
unkeyed_fits line (Some device_word_.Tree) = fields_fit line _
unkeyed_fits line (Some device_word_.Bytes) = fields_fit line _
unkeyed_fits line None = fields_fit line _

device_pair_fits : (line : Taken) (o : Option (List ℕ × List ℕ)) → IfSome (device.pair_or_row line o) RowFits
device_pair_fits line (Some p) = device_word_fits line p.1 (device_word p.0)
device_pair_fits line None = unkeyed_fits line _

device_fits : (line : Taken) → IfSome (device.device_row line) RowFits
unfolding device.device_row
device_fits line = device_pair_fits line (key_pair line.text)

-- the lines of a rule
abbrev rule_unnamed : RuleKind → Bool
rule_unnamed (rule_kind_.Plain kind) = not (kind == EFI_SECTION_FREEFORM_SUBTYPE_GUID)
rule_unnamed (rule_kind_.Worded kind) = not (kind == EFI_SECTION_FREEFORM_SUBTYPE_GUID)
rule_unnamed rule_kind_.Compressed = true

numbered_path : (line : Taken) (kind : ℕ) (options : RuleOptions) (path : List ℕ) (number : Result ℕ Fault) → not (kind == EFI_SECTION_FREEFORM_SUBTYPE_GUID) ≡ true
    → IfSome (rule.numbered_row line kind options (rule.path_source line path) number) RowFits
numbered_path line kind options path (Ok number) h =
    elim (rule.is_extension path) as (λ b. RowFits (rule.made_plan line kind options number (if b then Refused line.text else Template (without_workspace path)))) [
      | true ↦ (tt, tt, tt)
      | false ↦ (no_guid kind h, tt, tt)
    ]
numbered_path line kind options path (Err fault) h = tt

rule_path_fits : (line : Taken) (kind : ℕ) (p : RuleOptions × List ℕ × List ℕ) → not (kind == EFI_SECTION_FREEFORM_SUBTYPE_GUID) ≡ true → IfSome (rule.path_row line kind p) RowFits
rule_path_fits line kind p h = numbered_path line kind p.0 p.2 (rule.number_in line p.0 p.1) h

numbered_text : (line : Taken) (kind : ℕ) (options : RuleOptions) (words : List ℕ) (number : Result ℕ Fault) → not (kind == EFI_SECTION_FREEFORM_SUBTYPE_GUID) ≡ true
    → IfSome (rule.numbered_row line kind options (Words words) number) RowFits
numbered_text line kind options words (Ok number) h = (no_guid kind h, tt, tt)
numbered_text line kind options words (Err fault) h = tt

rule_text_fits : (line : Taken) (kind : ℕ) (words : List ℕ) (p : RuleOptions × List ℕ × List ℕ) → not (kind == EFI_SECTION_FREEFORM_SUBTYPE_GUID) ≡ true → IfSome (rule.text_row line kind words p) RowFits
rule_text_fits line kind words p h = numbered_text line kind p.0 words (rule.number_in line p.0 p.1) h

quoted_fits : (line : Taken) (kind : ℕ) (o : Option (List ℕ × List ℕ)) → not (kind == EFI_SECTION_FREEFORM_SUBTYPE_GUID) ≡ true → IfSome (rule.quoted_row line kind o) RowFits
quoted_fits line kind (Some p) h = rule_text_fits line kind p.0 (rule.rule_parts p.1) h
quoted_fits line kind None h = tt

worded_fits : (line : Taken) (kind : ℕ) (text : List ℕ) → not (kind == EFI_SECTION_FREEFORM_SUBTYPE_GUID) ≡ true → IfSome (rule.worded_row line kind text) RowFits
worded_fits line kind text h =
    elim (rule.is_string (word_of text)) as (λ b. IfSome (if b then rule.quoted_row line kind (rule.stated_words (after_word text)) else rule.plain_row line kind text) RowFits) [
      | true ↦ quoted_fits line kind (rule.stated_words (after_word text)) h
      | false ↦ rule_path_fits line kind (rule.rule_parts (after_word text)) h
    ]

rule_kind_fits : (line : Taken) (text : List ℕ) (o : Option RuleKind) → IfSome o (λ k. rule_unnamed k ≡ true) → IfSome (rule.kind_row line text o) RowFits
rule_kind_fits line text (Some (rule_kind_.Plain kind)) h = rule_path_fits line kind (rule.rule_parts (after_word text)) h
rule_kind_fits line text (Some (rule_kind_.Worded kind)) h = worded_fits line kind text h
rule_kind_fits line text (Some rule_kind_.Compressed) h = tt
rule_kind_fits line text None h = tt

rule_word_fits : (word : List ℕ) → IfSome (rule.rule_kind word) (λ k. rule_unnamed k ≡ true)
unfolding rule.rule_kind
rule_word_fits word = looked_up rule_unnamed rule.rule_kinds word refl

inner_fits : (line : Taken) → IfSome (rule.inner_row line) RowFits
inner_fits line =
    elim (is_close line.text) as (λ b. IfSome (if b then Some row.Closes else rule.kind_row line (after_word line.text) (rule.rule_kind (word_of line.text))) RowFits) [
      | true ↦ tt
      | false ↦ rule_kind_fits line (after_word line.text) (rule.rule_kind (word_of line.text)) (rule_word_fits (word_of line.text))
    ]

rule_named_fits : (line : Taken) (o : Option (ℕ × List ℕ × Options)) → IfSome (rule.named_row line o) RowFits
rule_named_fits line (Some p) = tt
rule_named_fits line None = tt

rule_in_fits : (line : Taken) (braces : Open) → IfSome (rule.row_in line braces) RowFits
rule_in_fits line braces_.InRule = inner_fits line
rule_in_fits line braces_.Shut = rule_named_fits line _
rule_in_fits line braces_.InApriori = rule_named_fits line _
rule_in_fits line (braces_.InFile filled) = rule_named_fits line _

rule_fits : (line : Taken) (braces : Open) → IfSome (rule.rule_row line braces) RowFits
unfolding rule.rule_row
rule_fits line braces = rule_in_fits line braces

-- any line
made_set_fits : (line : Taken) (rank : ℕ) (o : Option PcdName) (value : List ℕ) → IfSome (made_set line rank o value) RowFits
made_set_fits line rank (Some pcd) value = tt
made_set_fits line rank None value = tt

halves_fit : (line : Taken) (rank : ℕ) (o : Option (List ℕ × List ℕ)) → IfSome (halves_row line rank o) RowFits
halves_fit line rank (Some p) = made_set_fits line rank _ p.1
halves_fit line rank None = tt

set_fits : (line : Taken) (rank : ℕ) → IfSome (set_row line rank) RowFits
unfolding set_row
set_fits line rank = halves_fit line rank _

scope_row_fits : (line : Taken) (marks : Marks) (s : Scope) → IfSome (scope_row line marks s) RowFits
scope_row_fits line marks scope.Settings = tt
scope_row_fits line marks (scope.Device name) = device_fits line
scope_row_fits line marks (scope.Volume name) = volume_fits line marks.braces
scope_row_fits line marks (scope.Rule r) = rule_fits line marks.braces

line_row_fits : (line : Taken) (marks : Marks) (s : Scope) → IfSome (line_row line marks s) RowFits
unfolding line_row
line_row_fits line marks s =
    elim (is_set line.text) as (λ b. IfSome (if b then set_row line (rank_of s) else scope_row line marks s) RowFits) [
      | true ↦ set_fits line (rank_of s)
      | false ↦ scope_row_fits line marks s
    ]

-- heads
named_scope : (text : List ℕ) (s : Scope) → (is_image_name text ≡ true → ScopeFits s) → IfSome (meaning_scope (if is_image_name text then meaning.Section s else meaning.BadQualifier)) ScopeFits
named_scope text s h =
    elim (is_image_name text) as (λ b. (b ≡ true → ScopeFits s) → IfSome (meaning_scope (if b then meaning.Section s else meaning.BadQualifier)) ScopeFits) [
      | true ↦ λ f. f refl
      | false ↦ λ f. tt
    ] h

plain_scope : (qualifiers : List (List ℕ)) → IfSome (meaning_scope (plain_meaning qualifiers)) ScopeFits
plain_scope [] = tt
plain_scope (q ∷ qs) = tt

device_scope : (qualifiers : List (List ℕ)) → IfSome (meaning_scope (device_meaning qualifiers)) ScopeFits
device_scope [] = tt
device_scope (name ∷ []) = named_scope name (scope.Device name) (λ h. h)
device_scope (name ∷ q ∷ qs) = tt

volume_scope : (qualifiers : List (List ℕ)) → IfSome (meaning_scope (volume_meaning qualifiers)) ScopeFits
volume_scope [] = tt
volume_scope (name ∷ []) = named_scope name (scope.Volume name) (λ h. h)
volume_scope (name ∷ q ∷ qs) = tt

rule_with_fits : (arch : Option Arch) (kind : Option ModuleType) (named : Bool) (template name : List ℕ) → IfSome (meaning_scope (rule_scope arch kind named template name)) ScopeFits
rule_with_fits (Some arch) (Some kind) true template name = tt
rule_with_fits (Some arch) (Some kind) false template name = tt
rule_with_fits (Some arch) None named template name = tt
rule_with_fits None kind named template name = tt

rule_head_fits : (qualifiers : List (List ℕ)) → IfSome (meaning_scope (rule_meaning qualifiers)) ScopeFits
rule_head_fits [] = tt
rule_head_fits (a ∷ []) = tt
rule_head_fits (a ∷ b ∷ []) = rule_with_fits _ _ true [] _
rule_head_fits (a ∷ b ∷ c ∷ []) = rule_with_fits _ _ _ c _
rule_head_fits (a ∷ b ∷ c ∷ d ∷ qs) = tt

meaning_fits : (section : Option (Option FlashSection)) (qualifiers : List (List ℕ)) → IfSome (meaning_scope (meaning_of section qualifiers)) ScopeFits
meaning_fits (Some (Some flash_section.Defines)) qualifiers = plain_scope qualifiers
meaning_fits (Some (Some flash_section.Device)) qualifiers = device_scope qualifiers
meaning_fits (Some (Some flash_section.Volume)) qualifiers = volume_scope qualifiers
meaning_fits (Some (Some flash_section.Rule)) qualifiers = rule_head_fits qualifiers
meaning_fits (Some None) qualifiers = tt
meaning_fits None qualifiers = tt

parts_scope : (parts : List (List ℕ)) → IfSome (meaning_scope (parts_meaning parts)) ScopeFits
parts_scope [] = tt
parts_scope (first ∷ qualifiers) = meaning_fits (section_named first) qualifiers

head_fits : (head : Head) → IfSome (meaning_scope (head_meaning head)) ScopeFits
unfolding head_meaning
head_fits head = parts_scope head.parts

-- what is gathered of outcomes that fit
module _ {X T : Type 0} (P : T → Type 0) (conditions : X → List (Option Fault)) (value : X → Option T) (fits : (x : X) → IfSome (value x) P) where
  given_fits : (fault : Option Fault) (o : Option T) → IfSome o P → All P (given_in (unless fault o))
  given_fits None None h = All-nil P
  given_fits None (Some x) h = All-cons P x [] h (All-nil P)
  given_fits (Some fault) o h = All-nil P

  all_given : (xs : List X) → All P (flat_map given_in (map (λ x. unless_faulty (conditions x) (value x)) xs))
  all_given [] = All-nil P
  all_given (x ∷ xs) =
      All-append P (given_in (unless_faulty (conditions x) (value x))) (flat_map given_in (map (λ y. unless_faulty (conditions y) (value y)) xs))
      (given_fits (least_of (conditions x)) (value x) (fits x)) (all_given xs)

  kept_fits : (fault : Option Fault) (xs : List T) → All P xs → IfOk (unless fault xs) (All P)
  kept_fits None xs all = all
  kept_fits (Some fault) xs all = tt

  gathered_fits : (xs : List X) → IfOk (gathered (map (λ x. unless_faulty (conditions x) (value x)) xs)) (All P)
  gathered_fits xs = kept_fits (least_in (map (λ x. unless_faulty (conditions x) (value x)) xs)) (flat_map given_in (map (λ x. unless_faulty (conditions x) (value x)) xs)) (all_given xs)

-- what a line came to
abbrev pub ReadFits : Read Scope Row → Type 0
ReadFits (entered at scopes) = All ScopeFits scopes
ReadFits (gave rows) = All RowFits rows

entry_fits : (line : Taken) (r : Result (List Scope) Fault) → IfOk r (All ScopeFits) → All ReadFits (entry_read line r)
entry_fits line (Ok scopes) h = All-cons ReadFits (entered line.at scopes) [] h (All-nil ReadFits)
entry_fits line (Err fault) h = All-nil ReadFits

body_fits : (r : Result (List Row) Fault) → IfOk r (All RowFits) → All ReadFits (body_read r)
body_fits (Ok rows) h = All-cons ReadFits (gave rows) [] h (All-nil ReadFits)
body_fits (Err fault) h = All-nil ReadFits

given_below : (above : List (Read Scope Row)) (line : Taken) (scopes : Option (List Scope)) → IfOk (body_given flash_grammar above line scopes) (All RowFits)
given_below above line None = tt
given_below above line (Some scopes) =
    gathered_fits RowFits (λ s. flash_grammar.faults above line s) (λ s. line_row line (marks_below above) s) (line_row_fits line (marks_below above)) scopes

form_fits : (above : List (Read Scope Row)) (line : Taken) (f : LineForm) → All ReadFits (form_read flash_grammar above line f)
form_fits above line form.Blank = All-nil ReadFits
form_fits above line (form.Heads heads) =
    entry_fits line (heads_entered flash_grammar line heads)
    (gathered_fits ScopeFits (λ head. flash_grammar.head_faults line head) (λ head. meaning_scope (head_meaning head)) head_fits heads)
form_fits above line form.OpenHead = All-nil ReadFits
form_fits above line form.BadHead = All-nil ReadFits
form_fits above line form.Body = body_fits (body_given flash_grammar above line (scopes_above above)) (given_below above line (scopes_above above))

all_read : (taken : List Taken) (above : List (Read Scope Row)) → All ReadFits above → All ReadFits (fold (more_read flash_grammar) above taken)
all_read [] above all = all
all_read (line ∷ taken) above all =
    all_read taken (more_read flash_grammar above line) (All-append ReadFits above (form_read flash_grammar above line (form_of line.text)) all (form_fits above line (form_of line.text)))

unless_fits : (fault : Option Fault) (reads : List (Read Scope Row)) → All ReadFits reads → IfOk (unless fault reads) (All ReadFits)
unless_fits None reads all = all
unless_fits (Some fault) reads all = tt

pub rows_fit : (taken : List Taken) → IfOk (rows_of_flash taken) (All ReadFits)
unfolding rows_of_flash
rows_fit taken = unless_fits _ (read_of flash_grammar taken) (all_read taken [] (All-nil ReadFits))

pub lines_fit : (reads : List (Read Scope Row)) → All ReadFits reads → All (LineHas RowFits ScopeFits) (map line_of reads)
lines_fit [] all = All-nil (LineHas RowFits ScopeFits)
lines_fit (read ∷ reads) all = All-cons (LineHas RowFits ScopeFits) (line_of read) (map line_of reads) (one read (All-head ReadFits read reads all)) (lines_fit reads (All-tail ReadFits read reads all))
  where
    one : (r : Read Scope Row) → ReadFits r → LineHas RowFits ScopeFits (line_of r)
    one (entered at scopes) h = h
    one (gave rows) h = h
