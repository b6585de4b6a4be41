-- The faults of the lines of a volume have names.
use Rattle.std.proofs.Common.{ℕ, Bool, false, ◌-◌, ◌==◌, List, length, take, Option, Some, None}
use Rattle.std.specs.Prelude.{codes}
use Rattle.build_base.specs.FaultText.{fault_of}
use Rattle.build_base.specs.Guid.{guid_of}
use Rattle.build_base.specs.Path.{path_field}
use Rattle.build_base.specs.declared.guid.Guid.{Guid}
use Rattle.build_base.specs.declared.lines.Taken.{Taken}
use Rattle.macro_expressions.specs.Macros.{without_workspace}
use Rattle.meta_lexer.specs.Words.{is_identifier, has_macro_use}
use Rattle.doc_types.specs.Arches.{arch_named}
use Rattle.doc_types.specs.declared.volume.Align.{Align}
use Rattle.fdf_volumes.specs.Bodies as body
use Rattle.fdf_volumes.specs.InfLines as inf
use Rattle.fdf_volumes.specs.Statements as stated
use Rattle.fdf_volumes.specs.VolumeKeys as key
use Rattle.fdf_volumes.specs.VolumeLines as volume
use Rattle.fdf_volumes.specs.declared.body.SectionWord.{SectionWord}
use Rattle.fdf_volumes.specs.declared.body.SectionWord.TheVariants as section
use Rattle.fdf_volumes.specs.declared.inf_line.InfOptions.{InfOptions}
use Rattle.fdf_volumes.specs.declared.volume_line.Statement.{Statement}
use Rattle.fdf_volumes.specs.declared.volume_line.Statement.TheVariants as statement
use Rattle.fdf_words.specs.Keys.{key_pair, volume_word}
use Rattle.fdf_words.specs.Numbers.{bad_line, bad_value}
use Rattle.fdf_words.specs.Words.{word_of, after_word, after_equals, volume_alignment}
use Rattle.fdf_words.specs.declared.keys.VolumeWord.{VolumeWord}
use Rattle.fdf_words.specs.declared.keys.VolumeWord.TheVariants as word
use Rattle.fdf_words.specs.declared.marks.Body.{Body}
use Rattle.fdf_words.specs.declared.marks.Body.TheVariants.{Nothing, Sections, Whole}
use Rattle.fdf_words.specs.declared.marks.Open.{Open}
use Rattle.fdf_words.specs.declared.marks.Open.TheVariants.{Shut, InApriori, InFile, InRule}
use Rattle.fdf_words.specs.declared.rows.VolumeKey.{VolumeKey}
use Rattle.fdf_words.specs.declared.rows.VolumeKey.TheVariants as volume_key
use Rattle.fdf_words.specs.declared.words.Options.{Options}
use Rattle.build_base.specs.FaultCodes.{BAD_INF_LINE, BAD_PATH, FDF_BAD_FILE, FDF_BAD_GUID, TOO_MANY, UNDEFINED_MACRO}
use Rattle.named_faults.specs.Named.{IsNamed}
use Rattle.named_faults.proofs.NamedLemmas.{AreNamed, if_named}
use Rattle.named_faults.proofs.CodeLemmas.{bad_inf_line_named, bad_key_named, bad_path_named, compressed_refused_named, fdf_bad_file_named, fdf_bad_guid_named, statement_refused_named, too_many_named, undefined_macro_named}
use Rattle.platform_faults.proofs.DeviceLineLemmas.{number_named}
use Rattle.doc_reading.specs.Values.{require}
use Rattle.text_faults.proofs.ValueLemmas.{require_named, macros_named}

-- statements
no_form_named : (line : Taken) → AreNamed (stated.no_form_faults FDF_BAD_FILE line)
no_form_named line = (macros_named line.at line.text, (fdf_bad_file_named, tt))

before_named : (line : Taken) (field : List ℕ) → IsNamed (stated.macro_before line field)
before_named line field = if_named (has_macro_use (take (length line.text - length field) line.text)) (Some (bad_line UNDEFINED_MACRO line)) None undefined_macro_named tt

full_named : (line : Taken) (full : Bool) → IsNamed (stated.full_fault line full)
full_named line full = if_named full (Some (fault_of TOO_MANY line.at (codes "65536"))) None too_many_named tt

guid_named : (line : Taken) (text : List ℕ) (guid : Option Guid) → IsNamed (stated.guid_fault line text guid)
guid_named line text guid =
    if_named (length text == 0) (Some (bad_line FDF_BAD_FILE line)) (require guid (fault_of FDF_BAD_GUID line.at text)) fdf_bad_file_named
    (require_named guid (fault_of FDF_BAD_GUID line.at text) fdf_bad_guid_named)

parts_named : (line : Taken) (o : Option (ℕ × List ℕ × Options)) → IsNamed (stated.parts_fault line o)
parts_named line (Some p) = guid_named line p.1 (guid_of p.1)
parts_named line None = fdf_bad_file_named

file_named : (line : Taken) (full : Bool) → AreNamed (stated.file_faults line full)
unfolding stated.file_faults
file_named line full = (macros_named line.at line.text, (parts_named line (stated.file_parts (after_word line.text)), (full_named line full, tt)))

one_member_named : (line : Taken) (o : Option (List ℕ)) → IsNamed (stated.member_fault line o)
one_member_named line (Some text) = guid_named line text (guid_of text)
one_member_named line None = fdf_bad_file_named

member_named : (line : Taken) → AreNamed (stated.member_faults line)
unfolding stated.member_faults
member_named line = (macros_named line.at line.text, (one_member_named line (stated.member_name (after_word line.text)), tt))

apriori_named : (line : Taken) (full : Bool) → AreNamed (stated.apriori_faults line full)
unfolding stated.apriori_faults
apriori_named line full = (
  macros_named line.at line.text,
  (require_named (stated.apriori_named (after_word line.text)) (bad_line FDF_BAD_FILE line) fdf_bad_file_named, (full_named line full, tt)),
)

-- modules
inf_path_named : (line : Taken) (path : List ℕ) → IsNamed (inf.inf_path_fault line path)
inf_path_named line path =
    if_named (length path == 0) (Some (bad_line BAD_INF_LINE line)) (require (path_field (without_workspace path)) (fault_of BAD_PATH line.at path)) bad_inf_line_named
    (require_named (path_field (without_workspace path)) (fault_of BAD_PATH line.at path) bad_path_named)

template_named : (line : Taken) (o : Option (List ℕ)) → IsNamed (inf.template_fault line o)
template_named line (Some name) = if_named (is_identifier name) None (Some (bad_line BAD_INF_LINE line)) tt bad_inf_line_named
template_named line None = tt

use_named : (line : Taken) (o : Option (List ℕ)) → IsNamed (inf.use_fault line o)
use_named line (Some text) = require_named (inf.one_arch (arch_named text)) (bad_line BAD_INF_LINE line) bad_inf_line_named
use_named line None = tt

inf_parts_named : (line : Taken) (full : Bool) (o : Option (InfOptions × List ℕ)) → AreNamed (inf.inf_parts_faults line full o)
inf_parts_named line full (Some p) =
    (before_named line p.1, (inf_path_named line p.1, (template_named line p.0.template, (use_named line p.0.arch, (full_named line full, tt)))))
inf_parts_named line full None = (macros_named line.at line.text, (bad_inf_line_named, (full_named line full, tt)))

inf_named : (line : Taken) (full : Bool) → AreNamed (inf.inf_faults line full)
unfolding inf.inf_faults
inf_named line full = inf_parts_named line full (inf.inf_parts (after_word line.text))

-- bodies of files
path_named : (line : Taken) (value : List ℕ) → AreNamed (body.path_faults line value)
path_named line value = (before_named line value, (require_named (path_field (without_workspace value)) (fault_of BAD_PATH line.at value) bad_path_named, tt))

words_named : (line : Taken) (value : List ℕ) (o : Option (List ℕ)) → AreNamed (body.words_faults line value o)
words_named line value (Some words) = (macros_named line.at line.text, tt)
words_named line value None = path_named line value

guid_path_named : (line : Taken) (text value : List ℕ) → AreNamed (body.guid_faults line text value)
guid_path_named line text value = (
  before_named line value,
  (
    require_named (path_field (without_workspace value)) (fault_of BAD_PATH line.at value) bad_path_named,
    (require_named (guid_of text) (fault_of FDF_BAD_GUID line.at text) fdf_bad_guid_named, tt),
  ),
)

value_named : (line : Taken) (w : SectionWord) (value : List ℕ) → AreNamed (body.value_faults line w value)
value_named line (section.Plain kind) value = path_named line value
value_named line (section.Worded kind) value = words_named line value (body.words_in_quotes value)
value_named line section.Nested value = (macros_named line.at line.text, tt)
value_named line section.Named value = no_form_named line
value_named line section.Refused value = no_form_named line

equals_named : (line : Taken) (w : SectionWord) (o : Option (List ℕ)) → AreNamed (body.equals_faults line w o)
equals_named line w (Some value) = value_named line w value
equals_named line w None = no_form_named line

named_named : (line : Taken) (text : List ℕ) (o : Option (List ℕ)) → AreNamed (body.named_faults line text o)
named_named line text (Some value) = guid_path_named line text value
named_named line text None = no_form_named line

kind_named : (line : Taken) (text : List ℕ) (o : Option SectionWord) → AreNamed (body.kind_faults line text o)
kind_named line text (Some section.Refused) = (macros_named line.at line.text, (compressed_refused_named, tt))
kind_named line text (Some section.Named) = named_named line (word_of (after_word text)) (body.named_value (after_word text))
kind_named line text (Some (section.Plain kind)) = equals_named line (section.Plain kind) (body.some_text (after_equals (after_word text)))
kind_named line text (Some (section.Worded kind)) = equals_named line (section.Worded kind) (body.some_text (after_equals (after_word text)))
kind_named line text (Some section.Nested) = equals_named line section.Nested (body.some_text (after_equals (after_word text)))
kind_named line text None = no_form_named line

aligned_named : (line : Taken) (o : Option (Align × List ℕ)) → AreNamed (body.aligned_faults line o)
aligned_named line (Some p) = kind_named line p.1 (body.section_word (word_of p.1))
aligned_named line None = no_form_named line

section_named : (line : Taken) → AreNamed (body.section_faults line)
unfolding body.section_faults
section_named line = aligned_named line (body.maybe_align (after_word line.text))

whole_named : (line : Taken) → AreNamed (body.whole_faults line)
whole_named line = (require_named (path_field (without_workspace line.text)) (fault_of BAD_PATH line.at line.text) bad_path_named, tt)

-- keys
numbers_named : (line : Taken) (known : VolumeKey) (name value : List ℕ) → AreNamed (key.numbers_faults line known name value)
numbers_named line volume_key.FvAlignment name value = (macros_named line.at value, (require_named (volume_alignment value) (bad_value line value) bad_key_named, tt))
numbers_named line volume_key.BlockSize name value = number_named line (key.volume_form volume_key.BlockSize) name value false
numbers_named line volume_key.NumBlocks name value = number_named line (key.volume_form volume_key.NumBlocks) name value false
numbers_named line volume_key.FvBaseAddress name value = number_named line (key.volume_form volume_key.FvBaseAddress) name value false
numbers_named line volume_key.ErasePolarity name value = number_named line (key.volume_form volume_key.ErasePolarity) name value false

system_named : (line : Taken) (value : List ℕ) (o : Option Guid) → IsNamed (key.system_fault line value o)
system_named line value (Some guid) = require_named (key.is_ffs3 guid) (bad_value line value) bad_key_named
system_named line value None = fdf_bad_guid_named

truth_named : (line : Taken) (value : List ℕ) → AreNamed (key.truth_faults line value)
truth_named line value = (macros_named line.at value, (require_named (key.truth_named value) (bad_value line value) bad_key_named, tt))

word_named : (line : Taken) (name value : List ℕ) (o : Option VolumeWord) → AreNamed (key.word_faults line name value o)
word_named line name value (Some (word.Number known)) = numbers_named line known name value
word_named line name value (Some word.NameGuid) =
    (macros_named line.at value, (require_named (guid_of value) (fault_of FDF_BAD_GUID line.at value) fdf_bad_guid_named, tt))
word_named line name value (Some word.FileSystem) = (macros_named line.at value, (system_named line value (guid_of value), tt))
word_named line name value (Some word.ForceRebase) = truth_named line value
word_named line name value (Some (word.Attribute bits)) = truth_named line value
word_named line name value None = (macros_named line.at value, (bad_key_named, tt))

-- lines
unkeyed_named : (line : Taken) (o : Option VolumeWord) → AreNamed (volume.unkeyed_faults line o)
unkeyed_named line (Some w) = (macros_named line.at line.text, (bad_key_named, tt))
unkeyed_named line None = (macros_named line.at line.text, (statement_refused_named, tt))

plain_named : (line : Taken) (o : Option (List ℕ × List ℕ)) → AreNamed (volume.plain_faults line o)
plain_named line (Some p) = word_named line p.0 p.1 (volume_word p.0)
plain_named line None = unkeyed_named line (volume_word (word_of line.text))

shut_named : (line : Taken) (full : Bool) (o : Option Statement) → AreNamed (volume.shut_faults line full o)
shut_named line full (Some statement.Apriori) = apriori_named line full
shut_named line full (Some statement.Inf) = inf_named line full
shut_named line full (Some statement.File) = file_named line full
shut_named line full (Some statement.Section) = no_form_named line
shut_named line full (Some statement.Close) = no_form_named line
shut_named line full (Some statement.BadClose) = no_form_named line
shut_named line full None = plain_named line (key_pair line.text)

apriori_in_named : (line : Taken) (o : Option Statement) → AreNamed (volume.apriori_faults_in line o)
apriori_in_named line (Some statement.Inf) = inf_named line false
apriori_in_named line (Some statement.File) = member_named line
apriori_in_named line (Some statement.Close) = tt
apriori_in_named line (Some statement.Apriori) = no_form_named line
apriori_in_named line (Some statement.Section) = no_form_named line
apriori_in_named line (Some statement.BadClose) = no_form_named line
apriori_in_named line None = no_form_named line

section_in_named : (line : Taken) (filled : Body) → AreNamed (volume.section_faults_in line filled)
section_in_named line Nothing = section_named line
section_in_named line Sections = section_named line
section_in_named line Whole = no_form_named line

whole_in_named : (line : Taken) (filled : Body) → AreNamed (volume.whole_faults_in line filled)
whole_in_named line Nothing = whole_named line
whole_in_named line Sections = no_form_named line
whole_in_named line Whole = no_form_named line

file_in_named : (line : Taken) (filled : Body) (o : Option Statement) → AreNamed (volume.file_faults_in line filled o)
file_in_named line filled (Some statement.Section) = section_in_named line filled
file_in_named line filled (Some statement.Close) = tt
file_in_named line filled (Some statement.BadClose) = no_form_named line
file_in_named line filled (Some statement.Apriori) = whole_in_named line filled
file_in_named line filled (Some statement.Inf) = whole_in_named line filled
file_in_named line filled (Some statement.File) = whole_in_named line filled
file_in_named line filled None = whole_in_named line filled

in_named : (line : Taken) (braces : Open) (full : Bool) (o : Option Statement) → AreNamed (volume.faults_in line braces full o)
in_named line InApriori full o = apriori_in_named line o
in_named line (InFile filled) full o = file_in_named line filled o
in_named line Shut full o = shut_named line full o
in_named line InRule full o = shut_named line full o

pub volume_named : (line : Taken) (braces : Open) (full : Bool) → AreNamed (volume.volume_faults line braces full)
unfolding volume.volume_faults
volume_named line braces full = in_named line braces full (volume.statement_of line.text)
