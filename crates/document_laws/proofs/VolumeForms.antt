-- Lines of a volume, form by form.
use Rattle.std.proofs.Common.{◌≡◌, ◌<◌, ◌==◌, ◌&&◌, ℕ, suc, Bool, true, false, List, [], ◌∷◌, length, Option, Some, None, IfSome, Result, Ok, refl, sym, ap, ◌∙◌, lt-ltb, arith}
use Rattle.std.specs.Option.{IsSome, option_map}
use Rattle.std.proofs.lemmas.Bool.{and_right}
use Rattle.std.proofs.lemmas.Bool.Decides.{nat_tests}
use Rattle.build_base.specs.Guid.{guid_of}
use Rattle.build_base.specs.declared.fault.Fault.{Fault}
use Rattle.build_base.specs.declared.guid.Guid.{Guid}
use Rattle.build_base.specs.declared.lines.Taken.{Taken}
use Rattle.meta_lexer.specs.Lookup.{lookup}
use Rattle.meta_lexer.specs.Words.{is_identifier}
use Rattle.doc_reading.specs.Gathering.{unless_faulty}
use Rattle.doc_reading.specs.Least.{least_of}
use Rattle.doc_reading.specs.Values.{require}
use Rattle.doc_types.specs.Arches.{arch_named}
use Rattle.doc_types.specs.declared.arch.Arch.{Arch}
use Rattle.doc_types.specs.declared.volume.Member.TheVariants as member
use Rattle.fdf_words.specs.declared.keys.VolumeWord.{VolumeWord}
use Rattle.fdf_words.specs.declared.keys.VolumeWord.TheVariants as volume
use Rattle.fdf_words.specs.declared.marks.Marks.{Marks}
use Rattle.fdf_words.specs.declared.marks.Open.{Open}
use Rattle.fdf_words.specs.declared.marks.Open.TheVariants.{Shut, InApriori}
use Rattle.fdf_words.specs.declared.rows.Row.{Row}
use Rattle.fdf_words.specs.declared.rows.Row.TheVariants as row
use Rattle.fdf_words.specs.declared.rows.Scope.TheVariants as scope
use Rattle.fdf_words.specs.declared.rows.VolumeKey.{VolumeKey}
use Rattle.fdf_words.specs.declared.rows.VolumeKey.TheVariants as key
use Rattle.fdf_words.specs.declared.rows.VolumeSetting.TheVariants as setting
use Rattle.fdf_words.specs.declared.words.Options.{Options}
use Rattle.fdf_words.specs.Numbers as numbers
use Rattle.fdf_words.specs.Words.{begins_with, is_close, after_word, before_brace}
use Rattle.fdf_volumes.specs.declared.inf_line.InfOptions.{InfOptions}
use Rattle.fdf_volumes.specs.declared.volume_line.Statement.{Statement}
use Rattle.fdf_volumes.specs.declared.volume_line.Statement.TheVariants as statement
use Rattle.fdf_volumes.specs.InfLines as infs
use Rattle.fdf_volumes.specs.Statements as statements
use Rattle.fdf_volumes.specs.VolumeKeys as keys
use Rattle.fdf_volumes.specs.VolumeLines as lines
use Rattle.document_laws.specs.FlashForms as forms
use Rattle.document_laws.proofs.DeviceForms.{plain_line, read_line, number_faultless, number_found}
use Rattle.document_laws.proofs.FileOptionLemmas.{file_states}
use Rattle.document_laws.proofs.OptionLemmas.{inf_states}
use Rattle.document_laws.proofs.TextLemmas.{pair_found, word_found, rest_found, stated_found, brace_found}

Found : Taken → Open → Bool → Row → Type 0
Found line braces full r = unless_faulty (lines.volume_faults line braces full) (lines.volume_row line braces) ≡ Ok (Some r)

-- a text that isn't empty
pub filled_text : (text : List ℕ) → 0 < length text → (length text == 0) ≡ false
filled_text text l = grind (arith, nat_tests)

pub volume_line : (line : Taken) (marks : Marks) (full : Bool) (name : List ℕ) (braces : Open) (r : Row) → forms.IsPlain line → marks.braces ≡ braces
    → unless_faulty (lines.volume_faults line braces full) (lines.volume_row line braces) ≡ Ok (Some r) → forms.Says line marks full (scope.Volume name) r
volume_line line marks full name braces r h b e =
    plain_line line marks full (scope.Volume name) (Ok (Some r)) h
    (read_line line (lines.volume_faults line marks.braces full) (lines.volume_row line marks.braces) (Ok (Some r)) h
    (ap (λ o. unless_faulty (lines.volume_faults line o full) (lines.volume_row line o)) b ∙ e))

-- by the statement's word
pub by_statement : (line : Taken) (braces : Open) (full : Bool) (s : Option Statement) (x : Result (Option Row) Fault) → lines.statement_of line.text ≡ s
    → unless_faulty (lines.faults_in line braces full s) (lines.row_in line braces s) ≡ x → unless_faulty (lines.volume_faults line braces full) (lines.volume_row line braces) ≡ x
unfolding lines.volume_faults lines.volume_row
by_statement line braces full s x e h = ap (λ s. unless_faulty (lines.faults_in line braces full s) (lines.row_in line braces s)) e ∙ h

not_close : (text : List ℕ) → begins_with 125 text ≡ false → is_close text ≡ false
not_close [] e = refl
not_close (x ∷ xs) e =
    let other : (x == 125) ≡ false = ap (λ t. t && (x == 125)) (sym (lt-ltb 0 (suc (length xs)) (omega arith))) ∙ e in
    and_right (length (x ∷ xs) == 1) (x == 125) other

pub statement_found : (line : Taken) (known : Statement) (rest : List ℕ) → forms.IsStatement line known rest → lines.statement_of line.text ≡ Some known
unfolding lines.statement_of
statement_found line known rest h =
    rw (not_close line.text h.no_brace, h.no_brace, word_found line.text h.word rest h.worded, h.word_is) refl

pub after_statement : (line : Taken) (known : Statement) (rest : List ℕ) → forms.IsStatement line known rest → after_word line.text ≡ rest
after_statement line known rest h = rest_found line.text h.word rest h.worded

-- keys
keyed : (line : Taken) (marks : Marks) (full : Bool) (name : List ℕ) (known : VolumeWord) (value : List ℕ) (r : Row) → forms.IsKeyed line known value → marks.braces ≡ Shut
    → ((key : List ℕ) → unless_faulty (keys.word_faults line key value (Some known)) (keys.word_row line value (Some known)) ≡ Ok (Some r))
    → forms.Says line marks full (scope.Volume name) r
keyed line marks full name known value r h b e =
    volume_line line marks full name Shut r h.plain b
    (by_statement line Shut full None (Ok (Some r)) h.no_statement
    (ap (λ o. unless_faulty (lines.plain_faults line o) (lines.plain_row line o)) (pair_found line.text h.key value h.pair)
    ∙ ap (λ o. unless_faulty (keys.word_faults line h.key value o) (keys.word_row line value o)) h.word_is ∙ e h.key))

faultless : (faults : List (Option Fault)) (r : Row) → least_of faults ≡ None → unless_faulty faults (Some r) ≡ Ok (Some r)
faultless faults r e = rw e refl

plain_number : (line : Taken) (known : VolumeKey) (value : List ℕ) (number : ℕ) → forms.IsNumber line (keys.volume_form known) value number None → (name : List ℕ)
    → unless_faulty (numbers.number_faults line (keys.volume_form known) name value false) (keys.made_number known (numbers.number_of_field line (keys.volume_form known) value)) ≡ Ok (Some (row.Setting (setting.Number known number)))
plain_number line known value number h name =
    ap (λ o. unless_faulty (numbers.number_faults line (keys.volume_form known) name value false) (keys.made_number known o)) (number_found line (keys.volume_form known) value number None h)
    ∙ faultless (numbers.number_faults line (keys.volume_form known) name value false) (row.Setting (setting.Number known number)) (number_faultless line (keys.volume_form known) name value number None h)

setting_by : (line : Taken) (known : VolumeKey) (value : List ℕ) (number : ℕ) → forms.IsSetting line known value number → (name : List ℕ)
    → unless_faulty (keys.numbers_faults line known name value) (keys.numbers_row line known value) ≡ Ok (Some (row.Setting (setting.Number known number)))
setting_by line key.FvAlignment value number h name = rw (h.0, h.1) refl
setting_by line key.BlockSize value number h name = plain_number line key.BlockSize value number h name
setting_by line key.NumBlocks value number h name = plain_number line key.NumBlocks value number h name
setting_by line key.FvBaseAddress value number h name = plain_number line key.FvBaseAddress value number h name
setting_by line key.ErasePolarity value number h name = plain_number line key.ErasePolarity value number h name

pub setting_says : (line : Taken) (marks : Marks) (full : Bool) (name : List ℕ) (known : VolumeKey) (value : List ℕ) (number : ℕ) → forms.IsKeyed line (volume.Number known) value → marks.braces ≡ Shut → forms.IsSetting line known value number
    → forms.Says line marks full (scope.Volume name) (row.Setting (setting.Number known number))
setting_says line marks full name known value number h b s = keyed line marks full name (volume.Number known) value (row.Setting (setting.Number known number)) h b (setting_by line known value number s)

pub name_says : (line : Taken) (marks : Marks) (full : Bool) (name value : List ℕ) (guid : Guid) → forms.IsKeyed line volume.NameGuid value → marks.braces ≡ Shut → forms.IsFilled value → guid_of value ≡ Some guid
    → forms.Says line marks full (scope.Volume name) (row.Setting (setting.NameGuid guid))
name_says line marks full name value guid h b f g = keyed line marks full name volume.NameGuid value (row.Setting (setting.NameGuid guid)) h b (λ key. rw (f, g) refl)

pub system_says : (line : Taken) (marks : Marks) (full : Bool) (name value : List ℕ) (guid : Guid) (ffs3 : Bool) → forms.IsKeyed line volume.FileSystem value → marks.braces ≡ Shut → forms.IsFilled value → guid_of value ≡ Some guid → keys.is_ffs3 guid ≡ Some ffs3
    → forms.Says line marks full (scope.Volume name) (row.Setting (setting.FileSystem ffs3))
system_says line marks full name value guid ffs3 h b f g s = keyed line marks full name volume.FileSystem value (row.Setting (setting.FileSystem ffs3)) h b (λ key. rw (f, g, s) refl)

pub force_says : (line : Taken) (marks : Marks) (full : Bool) (name value : List ℕ) (on : Bool) → forms.IsKeyed line volume.ForceRebase value → marks.braces ≡ Shut → forms.IsFilled value → keys.truth_named value ≡ Some on
    → forms.Says line marks full (scope.Volume name) (row.Setting (setting.ForceRebase on))
force_says line marks full name value on h b f t = keyed line marks full name volume.ForceRebase value (row.Setting (setting.ForceRebase on)) h b (λ key. rw (f, t) refl)

pub attribute_says : (line : Taken) (marks : Marks) (full : Bool) (name value : List ℕ) (bits : ℕ) (on : Bool) → forms.IsKeyed line (volume.Attribute bits) value → marks.braces ≡ Shut → forms.IsFilled value → keys.truth_named value ≡ Some on
    → forms.Says line marks full (scope.Volume name) (row.Setting (setting.Attribute bits on))
attribute_says line marks full name value bits on h b f t = keyed line marks full name (volume.Attribute bits) value (row.Setting (setting.Attribute bits on)) h b (λ key. rw (f, t) refl)

-- statements
apriori_by : (line : Taken) (rest front : List ℕ) (pei : Bool) → after_word line.text ≡ rest → before_brace rest ≡ Some front → lookup statements.apriori_names front ≡ Some pei → forms.IsFilled line.text
    → unless_faulty (statements.apriori_faults line false) (statements.apriori_row line) ≡ Ok (Some (row.Apriori (record { at = line.at; pei = pei })))
unfolding statements.apriori_faults statements.apriori_row statements.apriori_named
apriori_by line rest front pei r b p f = rw (r, b, p, f) refl

pub apriori_says : (line : Taken) (marks : Marks) (name : List ℕ) (pei : Bool) → forms.IsApriori line pei → marks.braces ≡ Shut → forms.Says line marks false (scope.Volume name) (row.Apriori (record { at = line.at; pei = pei }))
apriori_says line marks name pei h b =
    let r = row.Apriori (record { at = line.at; pei = pei }) in
    volume_line line marks false name Shut r h.statement.plain b
    (by_statement line Shut false (Some statement.Apriori) (Ok (Some r)) (statement_found line statement.Apriori h.rest h.statement)
    (apriori_by line h.rest h.front pei (after_statement line statement.Apriori h.rest h.statement) (brace_found h.rest h.front h.braced) h.named h.filled))

templated : (line : Taken) (template : Option (List ℕ)) → IfSome template (λ name. is_identifier name ≡ true) → infs.template_fault line template ≡ None
templated line (Some name) h = rw h refl
templated line None h = refl

there : (arch : Option Arch) (missing : Fault) → IsSome arch → require arch missing ≡ None
there (Some arch) missing h = refl
there None missing h = absurd cc

used : (line : Taken) (arch : Option (List ℕ)) → IfSome arch (λ word. IsSome (infs.one_arch (arch_named word))) → infs.use_fault line arch ≡ None
used line (Some word) h = there (infs.one_arch (arch_named word)) _ h
used line None h = refl

inf_faultless : (line : Taken) (options : InfOptions) (path : List ℕ) (h : forms.IsInf line options path) → least_of (infs.inf_parts_faults line false (Some (options, h.field))) ≡ None
inf_faultless line options path h = rw (h.filled, filled_text h.field h.some, h.path_is, templated line options.template h.template, used line options.arch h.arch) refl

inf_parted : (line : Taken) (options : InfOptions) (path : List ℕ) (h : forms.IsInf line options path) → infs.inf_parts (after_word line.text) ≡ Some (options, h.field)
inf_parted line options path h = ap infs.inf_parts (after_statement line statement.Inf h.rest h.statement) ∙ inf_states h.rest options h.field h.parts

inf_faults_none : (line : Taken) (options : InfOptions) (path : List ℕ) → forms.IsInf line options path → least_of (infs.inf_faults line false) ≡ None
unfolding infs.inf_faults
inf_faults_none line options path h = ap (λ p. least_of (infs.inf_parts_faults line false p)) (inf_parted line options path h) ∙ inf_faultless line options path h

inf_found : (line : Taken) (options : InfOptions) (path : List ℕ) → forms.IsInf line options path → infs.inf_of line ≡ Some (forms.module_of line options path)
unfolding infs.inf_of
inf_found line options path h = ap (infs.inf_parts_line line) (inf_parted line options path h) ∙ ap (infs.made_inf line options) h.path_is

pub inf_says : (line : Taken) (marks : Marks) (name : List ℕ) (options : InfOptions) (path : List ℕ) → forms.IsInf line options path → marks.braces ≡ Shut
    → forms.Says line marks false (scope.Volume name) (row.Inf (forms.module_of line options path))
inf_says line marks name options path h b =
    let r = row.Inf (forms.module_of line options path) in
    volume_line line marks false name Shut r h.statement.plain b
    (by_statement line Shut false (Some statement.Inf) (Ok (Some r)) (statement_found line statement.Inf h.rest h.statement)
    (ap (λ o. unless_faulty (infs.inf_faults line false) (option_map row.Inf o)) (inf_found line options path h)
    ∙ faultless (infs.inf_faults line false) r (inf_faults_none line options path h)))

pub inf_member_says : (line : Taken) (marks : Marks) (full : Bool) (name : List ℕ) (options : InfOptions) (path : List ℕ) → forms.IsInf line options path → marks.braces ≡ InApriori
    → forms.Says line marks full (scope.Volume name) (row.Member (member.Inf (forms.module_of line options path)))
inf_member_says line marks full name options path h b =
    let r = row.Member (member.Inf (forms.module_of line options path)) in
    volume_line line marks full name InApriori r h.statement.plain b
    (by_statement line InApriori full (Some statement.Inf) (Ok (Some r)) (statement_found line statement.Inf h.rest h.statement)
    (ap (λ o. unless_faulty (infs.inf_faults line false) (option_map lines.made_member o)) (inf_found line options path h)
    ∙ faultless (infs.inf_faults line false) r (inf_faults_none line options path h)))

pub file_parted : (text : List ℕ) (kind : ℕ) (name : List ℕ) (options : Options) → forms.AreFileParts text kind name options → statements.file_parts text ≡ Some (kind, name, options)
unfolding statements.file_parts statements.file_front
file_parted text kind name options h =
    rw (word_found text h.type_word h.more h.typed, h.kind_is, rest_found text h.type_word h.more h.typed, stated_found h.more h.value h.stated, brace_found h.value h.front h.braced, word_found h.front name h.rest h.named, rest_found h.front name h.rest h.named, file_states h.rest options h.options_are) refl

file_by : (line : Taken) (kind : ℕ) (name : List ℕ) (guid : Guid) (options : Options) → statements.file_parts (after_word line.text) ≡ Some (kind, name, options) → (length name == 0) ≡ false → guid_of name ≡ Some guid → forms.IsFilled line.text
    → unless_faulty (statements.file_faults line false) (statements.file_row line) ≡ Ok (Some (row.File (statements.head_with line kind (Some guid) options)))
unfolding statements.file_faults statements.file_row
file_by line kind name guid options p n g f = rw (p, n, g, f) refl

pub file_says : (line : Taken) (marks : Marks) (name : List ℕ) (kind : ℕ) (guid : Guid) (options : Options) → forms.IsFile line kind guid options → marks.braces ≡ Shut
    → forms.Says line marks false (scope.Volume name) (row.File (statements.head_with line kind (Some guid) options))
file_says line marks name kind guid options h b =
    let r = row.File (statements.head_with line kind (Some guid) options) in
    volume_line line marks false name Shut r h.statement.plain b
    (by_statement line Shut false (Some statement.File) (Ok (Some r)) (statement_found line statement.File h.rest h.statement)
    (file_by line kind h.name guid options (ap statements.file_parts (after_statement line statement.File h.rest h.statement) ∙ file_parted h.rest kind h.name options h.parts) (filled_text h.name h.some) h.guid_is h.filled))

member_named : (line : Taken) (guid : Guid) (h : forms.IsFileMember line guid) → statements.member_name (after_word line.text) ≡ Some h.name
unfolding statements.member_name
member_named line guid h =
    rw (after_statement line statement.File h.rest h.statement, word_found h.rest h.type_word h.more h.typed, h.kind_is, rest_found h.rest h.type_word h.more h.typed, stated_found h.more h.value h.stated, rest_found h.value h.name [] h.named, word_found h.value h.name [] h.named) refl

member_by : (line : Taken) (name : List ℕ) (guid : Guid) → statements.member_name (after_word line.text) ≡ Some name → (length name == 0) ≡ false → guid_of name ≡ Some guid → forms.IsFilled line.text
    → unless_faulty (statements.member_faults line) (statements.member_row line) ≡ Ok (Some (row.Member (member.File guid)))
unfolding statements.member_faults statements.member_row
member_by line name guid p n g f = rw (p, n, g, f) refl

pub member_says : (line : Taken) (marks : Marks) (full : Bool) (name : List ℕ) (guid : Guid) → forms.IsFileMember line guid → marks.braces ≡ InApriori → forms.Says line marks full (scope.Volume name) (row.Member (member.File guid))
member_says line marks full name guid h b =
    let r = row.Member (member.File guid) in
    volume_line line marks full name InApriori r h.statement.plain b
    (by_statement line InApriori full (Some statement.File) (Ok (Some r)) (statement_found line statement.File h.rest h.statement)
    (member_by line h.name guid (member_named line guid h) (filled_text h.name h.some) h.guid_is h.filled))
