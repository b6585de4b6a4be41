-- Lines of a volume of which no condition holds give rows.
use Rattle.std.proofs.Common.{◌≡◌, ◌==◌, ℕ, Bool, true, false, if◌then◌else◌, List, [], ◌∷◌, length, Option, Some, None, refl}
use Rattle.std.specs.Option.{IsSome}
use Rattle.build_base.specs.FaultCodes.{BAD_INF_LINE, BAD_KEY, BAD_PATH, COMPRESSED_REFUSED, FDF_BAD_FILE, FDF_BAD_GUID, STATEMENT_REFUSED}
use Rattle.build_base.specs.FaultText.{fault_of}
use Rattle.build_base.specs.Guid.{guid_of}
use Rattle.build_base.specs.Path.{path_field}
use Rattle.build_base.specs.declared.fault.Fault.{Fault}
use Rattle.build_base.specs.declared.guid.Guid.{Guid}
use Rattle.build_base.specs.declared.lines.Taken.{Taken}
use Rattle.macro_expressions.specs.Macros.{without_workspace}
use Rattle.doc_reading.specs.Least.{least_of}
use Rattle.doc_reading.specs.ValueFields.{undefined_macro}
use Rattle.doc_reading.specs.Values.{require}
use Rattle.doc_reading.proofs.FaultlessLemmas.{least_first, least_rest, wanted_given}
use Rattle.doc_types.specs.declared.volume.Align.{Align}
use Rattle.fdf_words.specs.declared.keys.VolumeWord.{VolumeWord}
use Rattle.fdf_words.specs.declared.keys.VolumeWord.TheVariants as word
use Rattle.fdf_words.specs.declared.marks.Body.{Body}
use Rattle.fdf_words.specs.declared.marks.Body.TheVariants as body
use Rattle.fdf_words.specs.declared.marks.Open.{Open}
use Rattle.fdf_words.specs.declared.marks.Open.TheVariants.{Shut, InApriori, InFile, InRule}
use Rattle.fdf_words.specs.declared.rows.VolumeKey.{VolumeKey}
use Rattle.fdf_words.specs.declared.rows.VolumeKey.TheVariants as key
use Rattle.fdf_words.specs.declared.words.Options.{Options}
use Rattle.fdf_words.specs.Keys.{key_pair, volume_word}
use Rattle.fdf_words.specs.Numbers as numbers
use Rattle.fdf_words.specs.Words.{word_of, after_word, after_equals, volume_alignment}
use Rattle.fdf_volumes.specs.declared.body.SectionWord.{SectionWord}
use Rattle.fdf_volumes.specs.declared.body.SectionWord.TheVariants as section
use Rattle.fdf_volumes.specs.declared.inf_line.InfOptions.{InfOptions}
use Rattle.fdf_volumes.specs.declared.volume_line.Statement.{Statement}
use Rattle.fdf_volumes.specs.declared.volume_line.Statement.TheVariants.{Apriori, Inf, File, Section, Close, BadClose}
use Rattle.fdf_volumes.specs.Bodies as bodies
use Rattle.fdf_volumes.specs.InfLines as infs
use Rattle.fdf_volumes.specs.Statements as statements
use Rattle.fdf_volumes.specs.VolumeKeys as keys
use Rattle.fdf_volumes.specs.VolumeLines as lines
use Rattle.document_laws.proofs.DeviceGiven.{mapped, second, number_given}

formed : {X : Type 0} (code : ℕ) (line : Taken) → least_of (statements.no_form_faults code line) ≡ None → X
formed code line e = second (undefined_macro line.at line.text) (numbers.bad_line code line) e

-- the second of two conditions
last_of_two : (first last : Option Fault) → least_of (first ∷ last ∷ []) ≡ None → last ≡ None
last_of_two first last e = least_first last [] (least_rest first (last ∷ []) e)

-- a value that the second of some conditions wants
second_wanted : {T : Type 0} (first : Option Fault) (value : Option T) (missing : Fault) (rest : List (Option Fault)) → least_of (first ∷ require value missing ∷ rest) ≡ None → IsSome value
second_wanted first value missing rest e = wanted_given value missing (least_first (require value missing) rest (least_rest first (require value missing ∷ rest) e))

-- an a priori file
apriori_made : (line : Taken) (pei : Option Bool) → IsSome pei → IsSome (statements.made_apriori line pei)
apriori_made line (Some pei) h = refl
apriori_made line None h = absurd cc

apriori_given : (line : Taken) (full : Bool) → least_of (statements.apriori_faults line full) ≡ None → IsSome (statements.apriori_row line)
unfolding statements.apriori_faults statements.apriori_row
apriori_given line full e =
    apriori_made line (statements.apriori_named (after_word line.text))
    (second_wanted (undefined_macro line.at line.text) (statements.apriori_named (after_word line.text)) (numbers.bad_line FDF_BAD_FILE line) (statements.full_fault line full ∷ []) e)

-- a file
worded : (line : Taken) (text : List ℕ) (empty : Bool) (guid : Option Guid) (bad missing : Fault) → (if empty then Some bad else require guid missing) ≡ None → IsSome guid
worded line text true guid bad missing e = absurd cc
worded line text false guid bad missing e = wanted_given guid missing e

file_named : (line : Taken) (kind : ℕ) (guid : Option Guid) (options : Options) → IsSome guid → IsSome (statements.named_file line kind guid options)
file_named line kind (Some guid) options h = refl
file_named line kind None options h = absurd cc

file_by : (line : Taken) (parts : Option (ℕ × List ℕ × Options)) → statements.parts_fault line parts ≡ None → IsSome (statements.parts_row line parts)
file_by line (Some p) e =
    file_named line p.0 (guid_of p.1) p.2
    (worded line p.1 (length p.1 == 0) (guid_of p.1) (numbers.bad_line FDF_BAD_FILE line) (fault_of FDF_BAD_GUID line.at p.1) e)
file_by line None e = absurd cc

file_given : (line : Taken) (full : Bool) → least_of (statements.file_faults line full) ≡ None → IsSome (statements.file_row line)
unfolding statements.file_faults statements.file_row
file_given line full e =
    let parts = statements.parts_fault line (statements.file_parts (after_word line.text)) in
    let last = statements.full_fault line full ∷ [] in
    file_by line (statements.file_parts (after_word line.text))
    (least_first parts last (least_rest (undefined_macro line.at line.text) (parts ∷ last) e))

member_made : (guid : Option Guid) → IsSome guid → IsSome (statements.named_member guid)
member_made (Some guid) h = refl
member_made None h = absurd cc

member_by : (line : Taken) (name : Option (List ℕ)) → statements.member_fault line name ≡ None → IsSome (statements.member_of name)
member_by line (Some name) e =
    member_made (guid_of name)
    (worded line name (length name == 0) (guid_of name) (numbers.bad_line FDF_BAD_FILE line) (fault_of FDF_BAD_GUID line.at name) e)
member_by line None e = absurd cc

member_given : (line : Taken) → least_of (statements.member_faults line) ≡ None → IsSome (statements.member_row line)
unfolding statements.member_faults statements.member_row
member_given line e =
    member_by line (statements.member_name (after_word line.text))
    (last_of_two (undefined_macro line.at line.text) (statements.member_fault line (statements.member_name (after_word line.text))) e)

-- a module
inf_made : (line : Taken) (options : InfOptions) (path : Option (List ℕ)) → IsSome path → IsSome (infs.made_inf line options path)
inf_made line options (Some path) h = refl
inf_made line options None h = absurd cc

path_there : (empty : Bool) (path : Option (List ℕ)) (bad missing : Fault) → (if empty then Some bad else require path missing) ≡ None → IsSome path
path_there true path bad missing e = absurd cc
path_there false path bad missing e = wanted_given path missing e

inf_by : (line : Taken) (full : Bool) (parts : Option (InfOptions × List ℕ)) → least_of (infs.inf_parts_faults line full parts) ≡ None → IsSome (infs.inf_parts_line line parts)
inf_by line full (Some p) e =
    let path = infs.inf_path_fault line p.1 in
    let rest = infs.template_fault line p.0.template ∷ infs.use_fault line p.0.arch ∷ statements.full_fault line full ∷ [] in
    inf_made line p.0 (path_field (without_workspace p.1))
    (path_there (length p.1 == 0) (path_field (without_workspace p.1)) (numbers.bad_line BAD_INF_LINE line) (fault_of BAD_PATH line.at p.1)
    (least_first path rest (least_rest (statements.macro_before line p.1) (path ∷ rest) e)))
inf_by line full None e =
    let bad = Some (numbers.bad_line BAD_INF_LINE line) in
    let last = statements.full_fault line full ∷ [] in
    wrong (least_first bad last (least_rest (undefined_macro line.at line.text) (bad ∷ last) e))
  where
    wrong : Some (numbers.bad_line BAD_INF_LINE line) ≡ None → IsSome (infs.inf_parts_line line None)
    wrong h = absurd cc

inf_given : (line : Taken) (full : Bool) → least_of (infs.inf_faults line full) ≡ None → IsSome (infs.inf_of line)
unfolding infs.inf_faults infs.inf_of
inf_given line full e = inf_by line full (infs.inf_parts (after_word line.text)) e

-- a key
setting_made : (known : VolumeKey) (number : Option _) → IsSome number → IsSome (keys.made_number known number)
setting_made known (Some number) h = refl
setting_made known None h = absurd cc

alignment_made : (bytes : Option ℕ) → IsSome bytes → IsSome (keys.alignment_row bytes)
alignment_made (Some bytes) h = refl
alignment_made None h = absurd cc

plain_number : (line : Taken) (known : VolumeKey) (name value : List ℕ) → least_of (numbers.number_faults line (keys.volume_form known) name value false) ≡ None → IsSome (keys.made_number known (numbers.number_of_field line (keys.volume_form known) value))
plain_number line known name value e =
    setting_made known (numbers.number_of_field line (keys.volume_form known) value) (number_given line (keys.volume_form known) name value false e)

numbers_given : (line : Taken) (known : VolumeKey) (name value : List ℕ) → least_of (keys.numbers_faults line known name value) ≡ None → IsSome (keys.numbers_row line known value)
numbers_given line key.FvAlignment name value e =
    alignment_made (volume_alignment value) (second_wanted (undefined_macro line.at value) (volume_alignment value) (numbers.bad_value line value) [] e)
numbers_given line key.BlockSize name value e = plain_number line key.BlockSize name value e
numbers_given line key.NumBlocks name value e = plain_number line key.NumBlocks name value e
numbers_given line key.FvBaseAddress name value e = plain_number line key.FvBaseAddress name value e
numbers_given line key.ErasePolarity name value e = plain_number line key.ErasePolarity name value e

name_made : (guid : Option Guid) → IsSome guid → IsSome (keys.name_row guid)
name_made (Some guid) h = refl
name_made None h = absurd cc

system_made : (ffs3 : Option Bool) → IsSome ffs3 → IsSome (keys.system_row ffs3)
system_made (Some ffs3) h = refl
system_made None h = absurd cc

system_found : (line : Taken) (value : List ℕ) (guid : Option Guid) → keys.system_fault line value guid ≡ None → IsSome (keys.file_system guid)
system_found line value (Some guid) e = wanted_given (keys.is_ffs3 guid) (numbers.bad_value line value) e
system_found line value None e = absurd cc

force_made : (on : Option Bool) → IsSome on → IsSome (keys.force_row on)
force_made (Some on) h = refl
force_made None h = absurd cc

attribute_made : (bits : ℕ) (on : Option Bool) → IsSome on → IsSome (keys.attribute_row bits on)
attribute_made bits (Some on) h = refl
attribute_made bits None h = absurd cc

truth_there : (line : Taken) (value : List ℕ) → least_of (keys.truth_faults line value) ≡ None → IsSome (keys.truth_named value)
truth_there line value e = second_wanted (undefined_macro line.at value) (keys.truth_named value) (numbers.bad_value line value) [] e

word_given : (line : Taken) (name value : List ℕ) (known : Option VolumeWord) → least_of (keys.word_faults line name value known) ≡ None → IsSome (keys.word_row line value known)
word_given line name value (Some (word.Number known)) e = numbers_given line known name value e
word_given line name value (Some word.NameGuid) e =
    name_made (guid_of value) (second_wanted (undefined_macro line.at value) (guid_of value) (fault_of FDF_BAD_GUID line.at value) [] e)
word_given line name value (Some word.FileSystem) e =
    system_made (keys.file_system (guid_of value))
    (system_found line value (guid_of value) (last_of_two (undefined_macro line.at value) (keys.system_fault line value (guid_of value)) e))
word_given line name value (Some word.ForceRebase) e = force_made (keys.truth_named value) (truth_there line value e)
word_given line name value (Some (word.Attribute bits)) e = attribute_made bits (keys.truth_named value) (truth_there line value e)
word_given line name value None e = second (undefined_macro line.at value) (fault_of BAD_KEY line.at name) e

unkeyed : {X : Type 0} (line : Taken) (known : Option VolumeWord) → least_of (lines.unkeyed_faults line known) ≡ None → X
unkeyed line (Some known) e = second (undefined_macro line.at line.text) (fault_of BAD_KEY line.at (word_of line.text)) e
unkeyed line None e = second (undefined_macro line.at line.text) (fault_of STATEMENT_REFUSED line.at (word_of line.text)) e

plain_given : (line : Taken) (pair : Option (List ℕ × List ℕ)) → least_of (lines.plain_faults line pair) ≡ None → IsSome (lines.plain_row line pair)
plain_given line (Some p) e = word_given line p.0 p.1 (volume_word p.0) e
plain_given line None e = unkeyed line (volume_word (word_of line.text)) e

-- a section
path_made : (line : Taken) (kind : ℕ) (align : Align) (path : Option (List ℕ)) → IsSome path → IsSome (bodies.path_row line kind align path)
path_made line kind align (Some path) h = refl
path_made line kind align None h = absurd cc

path_given : (line : Taken) (kind : ℕ) (align : Align) (value : List ℕ) → least_of (bodies.path_faults line value) ≡ None → IsSome (bodies.path_row line kind align (path_field (without_workspace value)))
path_given line kind align value e =
    path_made line kind align (path_field (without_workspace value))
    (second_wanted (statements.macro_before line value) (path_field (without_workspace value)) (fault_of BAD_PATH line.at value) [] e)

words_given : (line : Taken) (kind : ℕ) (align : Align) (value : List ℕ) (words : Option (List ℕ)) → least_of (bodies.words_faults line value words) ≡ None → IsSome (bodies.words_row line kind align value words)
words_given line kind align value (Some words) e = refl
words_given line kind align value None e = path_given line kind align value e

guid_made : (line : Taken) (align : Align) (guid : Option Guid) (path : Option (List ℕ)) → IsSome guid → IsSome path → IsSome (bodies.guid_row line align guid path)
guid_made line align (Some guid) (Some path) g h = refl
guid_made line align (Some guid) None g h = absurd cc
guid_made line align None path g h = absurd cc

named_by : (line : Taken) (align : Align) (name : List ℕ) (value : Option (List ℕ)) → least_of (bodies.named_faults line name value) ≡ None → IsSome (bodies.named_row line align name value)
named_by line align name (Some value) e =
    let path = path_field (without_workspace value) in
    let last = require (guid_of name) (fault_of FDF_BAD_GUID line.at name) in
    guid_made line align (guid_of name) path
    (wanted_given (guid_of name) (fault_of FDF_BAD_GUID line.at name)
    (last_of_two (require path (fault_of BAD_PATH line.at value)) last
    (least_rest (statements.macro_before line value) (require path (fault_of BAD_PATH line.at value) ∷ last ∷ []) e)))
    (second_wanted (statements.macro_before line value) path (fault_of BAD_PATH line.at value) (last ∷ []) e)
named_by line align name None e = formed FDF_BAD_FILE line e

value_given : (line : Taken) (align : Align) (kind : SectionWord) (value : List ℕ) → least_of (bodies.value_faults line kind value) ≡ None → IsSome (bodies.value_row line align kind value)
value_given line align (section.Plain kind) value e = path_given line kind align value e
value_given line align (section.Worded kind) value e = words_given line kind align value (bodies.words_in_quotes value) e
value_given line align section.Nested value e = refl
value_given line align section.Named value e = formed FDF_BAD_FILE line e
value_given line align section.Refused value e = formed FDF_BAD_FILE line e

equals_given : (line : Taken) (align : Align) (kind : SectionWord) (value : Option (List ℕ)) → least_of (bodies.equals_faults line kind value) ≡ None → IsSome (bodies.equals_row line align kind value)
equals_given line align kind (Some value) e = value_given line align kind value e
equals_given line align kind None e = formed FDF_BAD_FILE line e

kind_given : (line : Taken) (align : Align) (text : List ℕ) (kind : Option SectionWord) → least_of (bodies.kind_faults line text kind) ≡ None → IsSome (bodies.kind_row line align text kind)
kind_given line align text (Some section.Refused) e = second (undefined_macro line.at line.text) (fault_of COMPRESSED_REFUSED line.at (word_of text)) e
kind_given line align text (Some section.Named) e = named_by line align (word_of (after_word text)) (bodies.named_value (after_word text)) e
kind_given line align text (Some (section.Plain kind)) e = equals_given line align (section.Plain kind) (bodies.some_text (after_equals (after_word text))) e
kind_given line align text (Some (section.Worded kind)) e = equals_given line align (section.Worded kind) (bodies.some_text (after_equals (after_word text))) e
kind_given line align text (Some section.Nested) e = equals_given line align section.Nested (bodies.some_text (after_equals (after_word text))) e
kind_given line align text None e = formed FDF_BAD_FILE line e

aligned_given : (line : Taken) (p : Option (Align × List ℕ)) → least_of (bodies.aligned_faults line p) ≡ None → IsSome (bodies.aligned_row line p)
aligned_given line (Some p) e = kind_given line p.0 p.1 (bodies.section_word (word_of p.1)) e
aligned_given line None e = formed FDF_BAD_FILE line e

section_given : (line : Taken) → least_of (bodies.section_faults line) ≡ None → IsSome (bodies.section_row line)
unfolding bodies.section_faults bodies.section_row
section_given line e = aligned_given line (bodies.maybe_align (after_word line.text)) e

whole_made : (path : Option (List ℕ)) → IsSome path → IsSome (bodies.whole_row path)
whole_made (Some path) h = refl
whole_made None h = absurd cc

whole_given : (line : Taken) → least_of (bodies.whole_faults line) ≡ None → IsSome (lines.whole_row_in line)
whole_given line e =
    whole_made (path_field (without_workspace line.text))
    (wanted_given (path_field (without_workspace line.text)) (fault_of BAD_PATH line.at line.text) (least_first (require (path_field (without_workspace line.text)) (fault_of BAD_PATH line.at line.text)) [] e))

-- where a line stands
shut_given : (line : Taken) (full : Bool) (s : Option Statement) → least_of (lines.shut_faults line full s) ≡ None → IsSome (lines.shut_row line s)
shut_given line full (Some Apriori) e = apriori_given line full e
shut_given line full (Some Inf) e = mapped _ (infs.inf_of line) (inf_given line full e)
shut_given line full (Some File) e = file_given line full e
shut_given line full (Some Section) e = formed FDF_BAD_FILE line e
shut_given line full (Some Close) e = formed FDF_BAD_FILE line e
shut_given line full (Some BadClose) e = formed FDF_BAD_FILE line e
shut_given line full None e = plain_given line (key_pair line.text) e

apriori_given_in : (line : Taken) (s : Option Statement) → least_of (lines.apriori_faults_in line s) ≡ None → IsSome (lines.apriori_row_in line s)
apriori_given_in line (Some Inf) e = mapped _ (infs.inf_of line) (inf_given line false e)
apriori_given_in line (Some File) e = member_given line e
apriori_given_in line (Some Close) e = refl
apriori_given_in line (Some Apriori) e = formed FDF_BAD_FILE line e
apriori_given_in line (Some Section) e = formed FDF_BAD_FILE line e
apriori_given_in line (Some BadClose) e = formed FDF_BAD_FILE line e
apriori_given_in line None e = formed FDF_BAD_FILE line e

section_given_in : (line : Taken) (filled : Body) → least_of (lines.section_faults_in line filled) ≡ None → IsSome (bodies.section_row line)
section_given_in line body.Nothing e = section_given line e
section_given_in line body.Sections e = section_given line e
section_given_in line body.Whole e = formed FDF_BAD_FILE line e

whole_given_in : (line : Taken) (filled : Body) → least_of (lines.whole_faults_in line filled) ≡ None → IsSome (lines.whole_row_in line)
whole_given_in line body.Nothing e = whole_given line e
whole_given_in line body.Sections e = formed FDF_BAD_FILE line e
whole_given_in line body.Whole e = formed FDF_BAD_FILE line e

file_given_in : (line : Taken) (filled : Body) (s : Option Statement) → least_of (lines.file_faults_in line filled s) ≡ None → IsSome (lines.file_row_in line s)
file_given_in line filled (Some Section) e = section_given_in line filled e
file_given_in line filled (Some Close) e = refl
file_given_in line filled (Some BadClose) e = formed FDF_BAD_FILE line e
file_given_in line filled (Some Apriori) e = whole_given_in line filled e
file_given_in line filled (Some Inf) e = whole_given_in line filled e
file_given_in line filled (Some File) e = whole_given_in line filled e
file_given_in line filled None e = whole_given_in line filled e

volume_by : (line : Taken) (braces : Open) (full : Bool) (s : Option Statement) → least_of (lines.faults_in line braces full s) ≡ None → IsSome (lines.row_in line braces s)
volume_by line InApriori full s e = apriori_given_in line s e
volume_by line (InFile filled) full s e = file_given_in line filled s e
volume_by line Shut full s e = shut_given line full s e
volume_by line InRule full s e = shut_given line full s e

pub volume_given : (line : Taken) (braces : Open) (full : Bool) → least_of (lines.volume_faults line braces full) ≡ None → IsSome (lines.volume_row line braces)
unfolding lines.volume_faults lines.volume_row
volume_given line braces full e = volume_by line braces full (lines.statement_of line.text) e
