-- Lines in the braces of a file, form by form.
use Rattle.std.proofs.Common.{◌≡◌, ℕ, Bool, if◌then◌else◌, List, Option, Some, None, Result, Ok, refl, ap, ap₂, ◌∙◌}
use Rattle.std.specs.Option.{option_map}
use Rattle.build_base.specs.Guid.{guid_of}
use Rattle.build_base.specs.Path.{path_field}
use Rattle.build_base.specs.declared.fault.Fault.{Fault}
use Rattle.build_base.specs.declared.guid.Guid.{Guid}
use Rattle.build_base.specs.declared.lines.Taken.{Taken}
use Rattle.meta_lexer.specs.Fields.{ends_quoted}
use Rattle.meta_lexer.specs.Words.{same_word}
use Rattle.macro_expressions.specs.Macros.{without_workspace}
use Rattle.doc_reading.specs.Gathering.{unless_faulty}
use Rattle.doc_types.specs.Standard.{EFI_SECTION_FIRMWARE_VOLUME_IMAGE, EFI_SECTION_FREEFORM_SUBTYPE_GUID}
use Rattle.doc_types.specs.declared.volume.Align.{Align}
use Rattle.doc_types.specs.declared.volume.Align.TheVariants.{Unset, Auto, Bytes}
use Rattle.fdf_words.specs.declared.marks.Body.{Body}
use Rattle.fdf_words.specs.declared.marks.Body.TheVariants.{Nothing, Sections, Whole}
use Rattle.fdf_words.specs.declared.marks.Marks.{Marks}
use Rattle.fdf_words.specs.declared.marks.Open.TheVariants.{InApriori, InFile}
use Rattle.fdf_words.specs.declared.rows.Row.{Row}
use Rattle.fdf_words.specs.declared.rows.Row.TheVariants as row
use Rattle.fdf_words.specs.declared.rows.Scope.TheVariants as scope
use Rattle.fdf_words.specs.declared.rows.SectionBody.TheVariants as body
use Rattle.fdf_words.specs.Keys.{is_set}
use Rattle.fdf_words.specs.Words.{word_of, after_word, after_equals, stated_align}
use Rattle.fdf_volumes.specs.declared.body.SectionWord.{SectionWord}
use Rattle.fdf_volumes.specs.declared.body.SectionWord.TheVariants as section
use Rattle.fdf_volumes.specs.declared.volume_line.Statement.{Statement}
use Rattle.fdf_volumes.specs.declared.volume_line.Statement.TheVariants as statement
use Rattle.fdf_volumes.specs.Bodies as bodies
use Rattle.fdf_volumes.specs.VolumeLines as lines
use Rattle.document_laws.specs.FlashForms as forms
use Rattle.document_laws.proofs.TextLemmas.{word_found, rest_found, stated_found}
use Rattle.document_laws.proofs.VolumeForms.{volume_line, by_statement, filled_text, statement_found, after_statement}

-- a brace that closes
pub closed_text : (line : Taken) → forms.Closes line → forms.IsPlain line
unfolding ends_quoted is_set same_word word_of
closed_text line e = record { closed = ap ends_quoted e; unset = ap is_set e }

closing : (line : Taken) → forms.Closes line → lines.statement_of line.text ≡ Some statement.Close
unfolding lines.statement_of
closing line e = ap lines.statement_of e

pub apriori_closes : (line : Taken) (marks : Marks) (full : Bool) (name : List ℕ) → forms.Closes line → marks.braces ≡ InApriori → forms.Says line marks full (scope.Volume name) row.Closes
apriori_closes line marks full name c b =
    volume_line line marks full name InApriori row.Closes (closed_text line c) b
    (by_statement line InApriori full (Some statement.Close) (Ok (Some row.Closes)) (closing line c) refl)

pub file_closes : (line : Taken) (marks : Marks) (full : Bool) (name : List ℕ) (filled : Body) → forms.Closes line → marks.braces ≡ InFile filled → forms.Says line marks full (scope.Volume name) row.Closes
file_closes line marks full name filled c b =
    volume_line line marks full name (InFile filled) row.Closes (closed_text line c) b
    (by_statement line (InFile filled) full (Some statement.Close) (Ok (Some row.Closes)) (closing line c) refl)

-- a path alone
whole_by : (line : Taken) (s : Option Statement) (path : List ℕ) → forms.IsNoSection s → path_field (without_workspace line.text) ≡ Some path
    → unless_faulty (lines.file_faults_in line Nothing s) (lines.file_row_in line s) ≡ Ok (Some (row.Whole path))
whole_by line (Some statement.Section) path n e = absurd n
whole_by line (Some statement.Close) path n e = absurd n
whole_by line (Some statement.BadClose) path n e = absurd n
whole_by line (Some statement.Apriori) path n e = rw e refl
whole_by line (Some statement.Inf) path n e = rw e refl
whole_by line (Some statement.File) path n e = rw e refl
whole_by line None path n e = rw e refl

pub whole_says : (line : Taken) (marks : Marks) (full : Bool) (name path : List ℕ) → forms.IsWhole line path → marks.braces ≡ InFile Nothing → forms.Says line marks full (scope.Volume name) (row.Whole path)
whole_says line marks full name path h b =
    volume_line line marks full name (InFile Nothing) (row.Whole path) h.plain b
    (by_statement line (InFile Nothing) full (lines.statement_of line.text) (Ok (Some (row.Whole path))) refl
    (whole_by line (lines.statement_of line.text) path h.no_section h.path_is))

-- a section
aligned : (text : List ℕ) (align : Align) (rest : List ℕ) → forms.IsAligned text align rest → bodies.maybe_align text ≡ Some (align, rest)
unfolding bodies.maybe_align stated_align
aligned text Unset rest h = ap₂ (λ t x. if t then option_map (λ p. (Bytes p.0, p.1)) (stated_align (after_word text)) else Some (Unset, x)) h.1 h.0
aligned text (Bytes number) rest h =
    rw (word_found text h.0 h.1 h.4, h.5, rest_found text h.0 h.1 h.4, stated_found h.1 h.2 h.6, word_found h.2 h.3 rest h.7, h.8, rest_found h.2 h.3 rest h.7) refl
aligned text Auto rest h = absurd h

section_by : (line : Taken) (align : Align) (known : SectionWord) (more : List ℕ) (h : forms.IsSection line align known more) (x : Result (Option Row) Fault)
    → unless_faulty (bodies.kind_faults line h.text (Some known)) (bodies.kind_row line align h.text (Some known)) ≡ x
    → unless_faulty (bodies.section_faults line) (bodies.section_row line) ≡ x
unfolding bodies.section_faults bodies.section_row
section_by line align known more h x e =
    ap (λ p. unless_faulty (bodies.aligned_faults line p) (bodies.aligned_row line p)) (ap bodies.maybe_align (after_statement line statement.Section h.rest h.statement) ∙ aligned h.rest align h.text h.aligned)
    ∙ ap (λ o. unless_faulty (bodies.kind_faults line h.text o) (bodies.kind_row line align h.text o)) (ap bodies.section_word (word_found h.text h.kind_word more h.kinded) ∙ h.kind_is) ∙ e

in_body : (line : Taken) (filled : Body) (r : Row) → forms.IsSectionsBody filled → unless_faulty (bodies.section_faults line) (bodies.section_row line) ≡ Ok (Some r)
    → unless_faulty (lines.section_faults_in line filled) (bodies.section_row line) ≡ Ok (Some r)
in_body line Nothing r n e = e
in_body line Sections r n e = e
in_body line Whole r n e = absurd n

section_line : (line : Taken) (marks : Marks) (full : Bool) (name : List ℕ) (filled : Body) (align : Align) (known : SectionWord) (more : List ℕ) (r : Row) (h : forms.IsSection line align known more) → marks.braces ≡ InFile filled → forms.IsSectionsBody filled
    → unless_faulty (bodies.kind_faults line h.text (Some known)) (bodies.kind_row line align h.text (Some known)) ≡ Ok (Some r)
    → forms.Says line marks full (scope.Volume name) r
section_line line marks full name filled align known more r h b n e =
    volume_line line marks full name (InFile filled) r h.statement.plain b
    (by_statement line (InFile filled) full (Some statement.Section) (Ok (Some r)) (statement_found line statement.Section h.rest h.statement)
    (in_body line filled r n (section_by line align known more h (Ok (Some r)) e)))

stated_text : (text value : List ℕ) → forms.IsStatedText text value → bodies.some_text (after_equals text) ≡ Some value
stated_text text value h = ap bodies.some_text (stated_found text value h.stated) ∙ ap (λ t. if t then None else Some value) (filled_text value h.some)

more_of : (line : Taken) (align : Align) (known : SectionWord) (more : List ℕ) (h : forms.IsSection line align known more) → after_word h.text ≡ more
more_of line align known more h = rest_found h.text h.kind_word more h.kinded

path_by : (line : Taken) (kind : ℕ) (align : Align) (value path : List ℕ) → path_field (without_workspace value) ≡ Some path → forms.IsFilledBefore line value
    → unless_faulty (bodies.path_faults line value) (bodies.path_row line kind align (path_field (without_workspace value))) ≡ Ok (Some (bodies.made_section line kind align None (body.Tree path)))
path_by line kind align value path p f = rw (f, p) refl

pub path_says : (line : Taken) (marks : Marks) (full : Bool) (name : List ℕ) (filled : Body) (align : Align) (kind : ℕ) (more path : List ℕ) → forms.IsSection line align (section.Plain kind) more → marks.braces ≡ InFile filled → forms.IsSectionsBody filled → forms.IsStatedPath line more path
    → forms.Says line marks full (scope.Volume name) (bodies.made_section line kind align None (body.Tree path))
path_says line marks full name filled align kind more path h b n p =
    section_line line marks full name filled align (section.Plain kind) more (bodies.made_section line kind align None (body.Tree path)) h b n
    (ap (λ o. unless_faulty (bodies.equals_faults line (section.Plain kind) o) (bodies.equals_row line align (section.Plain kind) o)) (ap (λ m. bodies.some_text (after_equals m)) (more_of line align (section.Plain kind) more h) ∙ stated_text more p.value p.stated)
    ∙ path_by line kind align p.value path p.path_is p.filled)

worded_by : (line : Taken) (align : Align) (kind : ℕ) (more value : List ℕ) (words : Option (List ℕ)) (h : forms.IsSection line align (section.Worded kind) more) → forms.IsStatedText more value → bodies.words_in_quotes value ≡ words
    → (r : Row) → unless_faulty (bodies.words_faults line value words) (bodies.words_row line kind align value words) ≡ Ok (Some r)
    → unless_faulty (bodies.kind_faults line h.text (Some (section.Worded kind))) (bodies.kind_row line align h.text (Some (section.Worded kind))) ≡ Ok (Some r)
worded_by line align kind more value words h s w r e =
    ap (λ o. unless_faulty (bodies.equals_faults line (section.Worded kind) o) (bodies.equals_row line align (section.Worded kind) o)) (ap (λ m. bodies.some_text (after_equals m)) (more_of line align (section.Worded kind) more h) ∙ stated_text more value s)
    ∙ ap (λ o. unless_faulty (bodies.words_faults line value o) (bodies.words_row line kind align value o)) w ∙ e

pub words_says : (line : Taken) (marks : Marks) (full : Bool) (name : List ℕ) (filled : Body) (align : Align) (kind : ℕ) (more value words : List ℕ) → forms.IsSection line align (section.Worded kind) more → marks.braces ≡ InFile filled → forms.IsSectionsBody filled → forms.IsStatedText more value → bodies.words_in_quotes value ≡ Some words → forms.IsFilled line.text
    → forms.Says line marks full (scope.Volume name) (bodies.made_section line kind align None (body.Words words))
words_says line marks full name filled align kind more value words h b n s w f =
    let r = bodies.made_section line kind align None (body.Words words) in
    section_line line marks full name filled align (section.Worded kind) more r h b n
    (worded_by line align kind more value (Some words) h s w r (rw f refl))

pub worded_path_says : (line : Taken) (marks : Marks) (full : Bool) (name : List ℕ) (filled : Body) (align : Align) (kind : ℕ) (more path : List ℕ) → forms.IsSection line align (section.Worded kind) more → marks.braces ≡ InFile filled → forms.IsSectionsBody filled → (p : forms.IsStatedPath line more path) → bodies.words_in_quotes p.value ≡ None
    → forms.Says line marks full (scope.Volume name) (bodies.made_section line kind align None (body.Tree path))
worded_path_says line marks full name filled align kind more path h b n p w =
    let r = bodies.made_section line kind align None (body.Tree path) in
    section_line line marks full name filled align (section.Worded kind) more r h b n
    (worded_by line align kind more p.value None h p.stated w r (path_by line kind align p.value path p.path_is p.filled))

pub nested_says : (line : Taken) (marks : Marks) (full : Bool) (name : List ℕ) (filled : Body) (align : Align) (more volume : List ℕ) → forms.IsSection line align section.Nested more → marks.braces ≡ InFile filled → forms.IsSectionsBody filled → forms.IsStatedText more volume → forms.IsFilled line.text
    → forms.Says line marks full (scope.Volume name) (bodies.made_section line EFI_SECTION_FIRMWARE_VOLUME_IMAGE align None (body.Volume volume))
nested_says line marks full name filled align more volume h b n s f =
    let r = bodies.made_section line EFI_SECTION_FIRMWARE_VOLUME_IMAGE align None (body.Volume volume) in
    section_line line marks full name filled align section.Nested more r h b n
    (ap (λ o. unless_faulty (bodies.equals_faults line section.Nested o) (bodies.equals_row line align section.Nested o)) (ap (λ m. bodies.some_text (after_equals m)) (more_of line align section.Nested more h) ∙ stated_text more volume s)
    ∙ rw f refl)

named_value : (line : Taken) (more : List ℕ) (guid : Guid) (path : List ℕ) (p : forms.IsNamedPath line more guid path) → bodies.named_value more ≡ Some p.path_in.value
unfolding bodies.named_value
named_value line more guid path p =
    ap (λ w. bodies.if_word w (bodies.some_text (after_equals (after_word more)))) (word_found more p.word p.more p.worded)
    ∙ ap (λ t. if t then None else bodies.some_text (after_equals (after_word more))) (filled_text p.word p.some)
    ∙ ap (λ m. bodies.some_text (after_equals m)) (rest_found more p.word p.more p.worded) ∙ stated_text p.more p.path_in.value p.path_in.stated

guid_by : (line : Taken) (align : Align) (word value : List ℕ) (guid : Guid) (path : List ℕ) → guid_of word ≡ Some guid → path_field (without_workspace value) ≡ Some path → forms.IsFilledBefore line value
    → unless_faulty (bodies.guid_faults line word value) (bodies.guid_row line align (guid_of word) (path_field (without_workspace value))) ≡ Ok (Some (bodies.made_section line EFI_SECTION_FREEFORM_SUBTYPE_GUID align (Some guid) (body.Tree path)))
guid_by line align word value guid path g p f = rw (f, p, g) refl

pub named_says : (line : Taken) (marks : Marks) (full : Bool) (name : List ℕ) (filled : Body) (align : Align) (more : List ℕ) (guid : Guid) (path : List ℕ) → forms.IsSection line align section.Named more → marks.braces ≡ InFile filled → forms.IsSectionsBody filled → forms.IsNamedPath line more guid path
    → forms.Says line marks full (scope.Volume name) (bodies.made_section line EFI_SECTION_FREEFORM_SUBTYPE_GUID align (Some guid) (body.Tree path))
named_says line marks full name filled align more guid path h b n p =
    let r = bodies.made_section line EFI_SECTION_FREEFORM_SUBTYPE_GUID align (Some guid) (body.Tree path) in
    section_line line marks full name filled align section.Named more r h b n
    (ap (λ m. unless_faulty (bodies.named_faults line (word_of m) (bodies.named_value m)) (bodies.named_row line align (word_of m) (bodies.named_value m))) (more_of line align section.Named more h)
    ∙ ap₂ (λ w v. unless_faulty (bodies.named_faults line w v) (bodies.named_row line align w v)) (word_found more p.word p.more p.worded) (named_value line more guid path p)
    ∙ guid_by line align p.word p.path_in.value guid path p.guid_is p.path_in.path_is p.path_in.filled)
