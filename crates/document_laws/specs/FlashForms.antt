-- What a line of each form says (EDK II FDF specification, sections 3.3 to 3.8), by the parts of
-- its text.
use Rattle.std.specs.Prelude.{◌≡◌, ◌<◌, ◌≤◌, ℕ, ◌-◌, ◌==◌, Bool, true, false, not, List, [], ◌∷◌, length, take, Option, Some, None, IfSome, unwrap_or, Ok, codes}
use Rattle.std.specs.List.{list_all}
use Rattle.std.specs.Option.{IsSome}
use Rattle.build_base.specs.Guid.{guid_of}
use Rattle.build_base.specs.Path.{path_field}
use Rattle.build_base.specs.declared.guid.Guid.{Guid}
use Rattle.build_base.specs.declared.lines.Taken.{Taken as Line}
use Rattle.meta_lexer.specs.Fields.{ends_quoted}
use Rattle.meta_lexer.specs.Lookup.{lookup}
use Rattle.meta_lexer.specs.Parts.{field_texts}
use Rattle.meta_lexer.specs.Words.{has_macro_use, is_identifier, same_word}
use Rattle.macro_expressions.specs.Macros.{same_text}
use Rattle.macro_expressions.specs.Macros.{without_workspace}
use Rattle.doc_reading.specs.Gathering.{unless_faulty}
use Rattle.doc_reading.specs.ValueFields.{number_value}
use Rattle.doc_types.specs.Arches.{arch_named}
use Rattle.doc_types.specs.Pcds.{pcd_name_of}
use Rattle.doc_types.specs.Volumes.{size_limit}
use Rattle.doc_types.specs.declared.pcd.PcdName.{PcdName}
use Rattle.doc_types.specs.declared.volume.Align.{Align}
use Rattle.doc_types.specs.declared.volume.InfLine.{InfLine}
use Rattle.doc_types.specs.declared.volume.Align.TheVariants.{Unset, Auto, Bytes}
use Rattle.fdf_words.specs.declared.keys.DeviceWord.{DeviceWord}
use Rattle.fdf_words.specs.declared.keys.DeviceWord.TheVariants as device
use Rattle.fdf_words.specs.declared.keys.VolumeWord.{VolumeWord}
use Rattle.fdf_words.specs.declared.marks.Body.{Body}
use Rattle.fdf_words.specs.declared.marks.Body.TheVariants.{Nothing, Sections, Whole}
use Rattle.fdf_words.specs.declared.marks.Marks.{Marks}
use Rattle.fdf_words.specs.declared.marks.Waiting.{Waiting}
use Rattle.fdf_words.specs.declared.marks.Waiting.TheVariants.{NoRegion, Started, Named}
use Rattle.fdf_words.specs.declared.number.NumberForm.{NumberForm}
use Rattle.fdf_words.specs.declared.number.NumberForm.TheVariants as form
use Rattle.fdf_words.specs.declared.rows.Content as content_type
use Rattle.fdf_words.specs.declared.rows.Content.TheVariants as content
use Rattle.fdf_words.specs.declared.rows.DeviceKey.{DeviceKey}
use Rattle.fdf_words.specs.declared.rows.Row.{Row}
use Rattle.fdf_words.specs.declared.rows.Scope.{Scope}
use Rattle.fdf_words.specs.declared.rows.VolumeKey.{VolumeKey}
use Rattle.fdf_words.specs.declared.rows.VolumeKey.TheVariants as key
use Rattle.fdf_words.specs.declared.words.Options.{Options}
use Rattle.fdf_words.specs.DataBytes.{data_of}
use Rattle.fdf_words.specs.DeviceLines.{number_form, misplaced}
use Rattle.fdf_words.specs.Keys.{device_word, volume_word, is_set}
use Rattle.fdf_words.specs.Words.{begins_with, is_close, word_of, volume_alignment, alignment_of}
use Rattle.fdf_volumes.specs.declared.body.SectionWord.{SectionWord}
use Rattle.fdf_volumes.specs.declared.inf_line.InfOptions.{InfOptions}
use Rattle.fdf_volumes.specs.declared.volume_line.Statement.{Statement}
use Rattle.fdf_volumes.specs.declared.volume_line.Statement.TheVariants as statement
use Rattle.fdf_volumes.specs.Bodies.{section_word}
use Rattle.fdf_volumes.specs.InfLines.{one_arch, used_arch, quoted_front}
use Rattle.fdf_volumes.specs.Statements.{file_type, apriori_names}
use Rattle.fdf_volumes.specs.VolumeKeys.{volume_form}
use Rattle.fdf_volumes.specs.VolumeLines.{statement_named, statement_of}
use Rattle.fdf_lines.specs.declared.rule_line.RuleKind.{RuleKind}
use Rattle.fdf_lines.specs.declared.rule_line.RuleKind.TheVariants as kinds
use Rattle.fdf_lines.specs.declared.rule_options.RuleOptions.{RuleOptions}
use Rattle.fdf_lines.specs.Grammar.{line_faults, line_row}
use Rattle.fdf_lines.specs.RuleNumbers.{stated_number}
use Rattle.fdf_lines.specs.Rules.{holds_other, is_extension, is_string, rule_kind}
use Rattle.document_laws.specs.StatedOptions.{StatesFile, StatesInf, StatesRule}
use Rattle.document_laws.specs.LineTexts.{IsSplit, IsPair, IsWorded, IsStated, IsBraced}

-- the line has no fault in its section, and this is its row
abbrev pub Says : Line → Marks → Bool → Scope → Row → Type 0
Says line marks full scope row =
    unless_faulty (line_faults line marks full scope) (line_row line marks scope) ≡ Ok (Some row)

-- no `$(` is left in a text
abbrev pub IsFilled : List ℕ → Type 0
IsFilled text = has_macro_use text ≡ false

-- none is left before a field at the line's end
abbrev pub IsFilledBefore : Line → List ℕ → Type 0
IsFilledBefore line field = IsFilled (take (length line.text - length field) line.text)

-- no quote stays open in the line, which is none of SET
pub record IsPlain (line : Line) : Type 0 where
  pub closed : ends_quoted line.text ≡ false
  pub unset : is_set line.text ≡ false

-- `SET PCD = value`
pub record IsSet (line : Line) (pcd : PcdName) (value : List ℕ) : Type 0 where
  pub closed : ends_quoted line.text ≡ false
  pub word : List ℕ
  pub rest : List ℕ
  pub name : List ℕ
  pub worded : IsWorded line.text word rest
  pub word_is : same_word word (codes "SET") ≡ true
  pub no_key : begins_with 61 rest ≡ false
  pub split : IsSplit rest name value
  pub pcd_is : pcd_name_of name ≡ Some pcd
  pub some : 0 < length value
  pub name_filled : IsFilled name
  pub value_filled : IsFilled value

-- a polarity is 1 or 0, a device has at most 0x10000000 bytes
abbrev pub InLimit : NumberForm → ℕ → Type 0
InLimit form.Polarity number = number ≤ 1
InLimit form.Size number = number ≤ size_limit
InLimit form.Plain number = Unit {0}
InLimit form.Address number = Unit {0}

-- behind an address or a size the PCD may stand that takes it
abbrev pub TakesPcd : NumberForm → Type 0
TakesPcd form.Address = Unit {0}
TakesPcd form.Size = Unit {0}
TakesPcd form.Plain = ⊥
TakesPcd form.Polarity = ⊥

abbrev pub AreFields : NumberForm → List ℕ → List ℕ → Option PcdName → Type 0
AreFields form value field None = field_texts value ≡ field ∷ []
AreFields form value field (Some pcd) =
    (name : List ℕ) × (field_texts value ≡ field ∷ name ∷ []) × (pcd_name_of name ≡ Some pcd)
    × IsFilled name × TakesPcd form

-- a number, maybe with its PCD
pub record IsNumber (line : Line) (form : NumberForm) (value : List ℕ) (number : ℕ)
    (pcd : Option PcdName) : Type 0 where
  pub field : List ℕ
  pub fields : AreFields form value field pcd
  pub number_is : number_value line.at field ≡ Ok number
  pub limit : InLimit form number

-- a device's `KEY = number`, where the key may stand
pub record IsDeviceNumber (line : Line) (marks : Marks) (known : DeviceKey) (number : ℕ)
    (pcd : Option PcdName) : Type 0 where
  pub plain : IsPlain line
  pub key : List ℕ
  pub value : List ℕ
  pub pair : IsPair line.text key value
  pub word_is : device_word key ≡ Some (device.Number known)
  pub placed : misplaced marks.pair known ≡ false
  pub number_is : IsNumber line (number_form known) value number pcd

-- a line without `=` that begins with no number's key
abbrev pub IsNoNumberKey : Option DeviceWord → Type 0
IsNoNumberKey (Some (device.Number known)) = ⊥
IsNoNumberKey word = Unit {0}

pub record IsUnkeyed (line : Line) : Type 0 where
  pub plain : IsPlain line
  pub unequal : list_all (λ b. not (b == 61)) line.text ≡ true
  pub word_is : IsNoNumberKey (device_word (word_of line.text))

abbrev pub NotBoth : Option PcdName → Option PcdName → Type 0
NotBoth (Some first) (Some second) = ⊥
NotBoth first second = Unit {0}

-- `Offset|Size`
pub record IsRegion (line : Line) (offset size : ℕ) : Type 0 where
  pub unkeyed : IsUnkeyed line
  pub first : List ℕ
  pub second : List ℕ
  pub fields : field_texts line.text ≡ first ∷ second ∷ []
  pub no_pcds : NotBoth (pcd_name_of first) (pcd_name_of second)
  pub offset_is : number_value line.at first ≡ Ok offset
  pub size_is : number_value line.at second ≡ Ok size

-- `PCD` or `PCD|PCD`
abbrev pub ArePcds : List (List ℕ) → PcdName → Option PcdName → Type 0
ArePcds (a ∷ []) first None = pcd_name_of a ≡ Some first
ArePcds (a ∷ b ∷ []) first (Some second) =
    (pcd_name_of a ≡ Some first) × (pcd_name_of b ≡ Some second)
ArePcds fields first second = ⊥

-- the PCDs of a region whose line stands above them
pub record IsRegionPcds (line : Line) (marks : Marks) (first : PcdName)
    (second : Option PcdName) : Type 0 where
  pub unkeyed : IsUnkeyed line
  pub pcds : ArePcds (field_texts line.text) first second
  pub started : marks.waiting ≡ Started

abbrev pub IsWaiting : Waiting → Type 0
IsWaiting NoRegion = ⊥
IsWaiting Started = Unit {0}
IsWaiting Named = Unit {0}

-- `FV = name`, `FILE = path` or `DATA = { bytes }`
abbrev pub Fills : DeviceWord → List ℕ → content_type.Content → Type 0
Fills device.Volume value (content.Volume name) = (value ≡ name) × IsFilled value
Fills device.Tree value (content.Tree path) = path_field (without_workspace value) ≡ Some path
Fills device.Bytes value (content.Bytes bytes) = (data_of value ≡ Some bytes) × IsFilled value
Fills word value filled = ⊥

-- what fills a region that waits for it
pub record IsContent (line : Line) (marks : Marks) (filled : content_type.Content) : Type 0 where
  pub plain : IsPlain line
  pub key : List ℕ
  pub value : List ℕ
  pub word : DeviceWord
  pub pair : IsPair line.text key value
  pub word_is : device_word key ≡ Some word
  pub fills : Fills word value filled
  pub waiting : IsWaiting marks.waiting

-- a volume's `KEY = VALUE`
pub record IsKeyed (line : Line) (known : VolumeWord) (value : List ℕ) : Type 0 where
  pub plain : IsPlain line
  pub key : List ℕ
  pub pair : IsPair line.text key value
  pub no_statement : statement_of line.text ≡ None
  pub word_is : volume_word key ≡ Some known

abbrev pub IsSetting : Line → VolumeKey → List ℕ → ℕ → Type 0
IsSetting line key.FvAlignment value number =
    (volume_alignment value ≡ Some number) × IsFilled value
IsSetting line known value number = IsNumber line (volume_form known) value number None

-- a statement's word, and what follows it
pub record IsStatement (line : Line) (known : Statement) (rest : List ℕ) : Type 0 where
  pub plain : IsPlain line
  pub word : List ℕ
  pub worded : IsWorded line.text word rest
  pub no_brace : begins_with 125 line.text ≡ false
  pub word_is : statement_named word ≡ Some known

-- `APRIORI PEI {` or `APRIORI DXE {`
pub record IsApriori (line : Line) (pei : Bool) : Type 0 where
  pub rest : List ℕ
  pub front : List ℕ
  pub statement : IsStatement line statement.Apriori rest
  pub braced : IsBraced rest front
  pub named : lookup apriori_names front ≡ Some pei
  pub filled : IsFilled line.text

-- `INF OPTIONS path`
pub record IsInf (line : Line) (options : InfOptions) (path : List ℕ) : Type 0 where
  pub rest : List ℕ
  pub field : List ℕ
  pub statement : IsStatement line statement.Inf rest
  pub parts : StatesInf rest options field
  pub some : 0 < length field
  pub path_is : path_field (without_workspace field) ≡ Some path
  pub template : IfSome options.template (λ name. is_identifier name ≡ true)
  pub arch : IfSome options.arch (λ word. IsSome (one_arch (arch_named word)))
  pub filled : IsFilledBefore line field

abbrev pub module_of : Line → InfOptions → List ℕ → InfLine
module_of line options path =
    record {
      at = line.at;
      inf = path;
      arch = used_arch options.arch;
      template = unwrap_or options.template [];
      version = options.version;
      ui = options.ui;
    }

-- `TYPE = NAME OPTIONS {`, which follows the word FILE
pub record AreFileParts (text : List ℕ) (kind : ℕ) (name : List ℕ)
    (options : Options) : Type 0 where
  pub type_word : List ℕ
  pub more : List ℕ
  pub value : List ℕ
  pub front : List ℕ
  pub rest : List ℕ
  pub typed : IsWorded text type_word more
  pub kind_is : file_type type_word ≡ Some kind
  pub stated : IsStated more value
  pub braced : IsBraced value front
  pub named : IsWorded front name rest
  pub options_are : StatesFile rest options

-- `FILE TYPE = GUID OPTIONS {`
pub record IsFile (line : Line) (kind : ℕ) (guid : Guid) (options : Options) : Type 0 where
  pub rest : List ℕ
  pub name : List ℕ
  pub statement : IsStatement line statement.File rest
  pub parts : AreFileParts rest kind name options
  pub some : 0 < length name
  pub guid_is : guid_of name ≡ Some guid
  pub filled : IsFilled line.text

-- `FILE TYPE = GUID`, in the braces of an a priori file
pub record IsFileMember (line : Line) (guid : Guid) : Type 0 where
  pub rest : List ℕ
  pub type_word : List ℕ
  pub more : List ℕ
  pub value : List ℕ
  pub name : List ℕ
  pub kind : ℕ
  pub statement : IsStatement line statement.File rest
  pub typed : IsWorded rest type_word more
  pub kind_is : file_type type_word ≡ Some kind
  pub stated : IsStated more value
  pub named : IsWorded value name []
  pub some : 0 < length name
  pub guid_is : guid_of name ≡ Some guid
  pub filled : IsFilled line.text

-- `}` alone
abbrev pub Closes : Line → Type 0
Closes line = line.text ≡ codes "}"

-- `Align = n` and a text, or the text alone
abbrev pub IsAligned : List ℕ → Align → List ℕ → Type 0
IsAligned text Unset rest =
    (text ≡ rest) × (same_word (word_of text) (codes "Align") ≡ false)
IsAligned text (Bytes number) rest =
    (word : List ℕ) × (more : List ℕ) × (value : List ℕ) × (digits : List ℕ)
    × IsWorded text word more × (same_word word (codes "Align") ≡ true)
    × IsStated more value × IsWorded value digits rest × (alignment_of digits ≡ Some number)
IsAligned text Auto rest = ⊥

-- `SECTION ALIGN KIND`, and what follows it
pub record IsSection (line : Line) (align : Align) (known : SectionWord)
    (more : List ℕ) : Type 0 where
  pub rest : List ℕ
  pub text : List ℕ
  pub kind_word : List ℕ
  pub statement : IsStatement line statement.Section rest
  pub aligned : IsAligned rest align text
  pub kinded : IsWorded text kind_word more
  pub kind_is : section_word kind_word ≡ Some known

-- sections stand at the front of a body or below others
abbrev pub IsSectionsBody : Body → Type 0
IsSectionsBody Nothing = Unit {0}
IsSectionsBody Sections = Unit {0}
IsSectionsBody Whole = ⊥

-- `= value`, which isn't empty
pub record IsStatedText (text value : List ℕ) : Type 0 where
  pub stated : IsStated text value
  pub some : 0 < length value

-- `= path`
pub record IsStatedPath (line : Line) (text path : List ℕ) : Type 0 where
  pub value : List ℕ
  pub stated : IsStatedText text value
  pub path_is : path_field (without_workspace value) ≡ Some path
  pub filled : IsFilledBefore line value

-- `GUID = path`
pub record IsNamedPath (line : Line) (text : List ℕ) (guid : Guid) (path : List ℕ) : Type 0 where
  pub word : List ℕ
  pub more : List ℕ
  pub worded : IsWorded text word more
  pub some : 0 < length word
  pub guid_is : guid_of word ≡ Some guid
  pub path_in : IsStatedPath line more path

-- what is no section's line and no brace
abbrev pub IsNoSection : Option Statement → Type 0
IsNoSection (Some statement.Section) = ⊥
IsNoSection (Some statement.Close) = ⊥
IsNoSection (Some statement.BadClose) = ⊥
IsNoSection known = Unit {0}

-- a path alone
pub record IsWhole (line : Line) (path : List ℕ) : Type 0 where
  pub plain : IsPlain line
  pub no_section : IsNoSection (statement_of line.text)
  pub path_is : path_field (without_workspace line.text) ≡ Some path

-- a rule's file, behind the word FILE
pub record IsRuleFile (line : Line) (kind : ℕ) (options : Options) : Type 0 where
  pub plain : IsPlain line
  pub word : List ℕ
  pub rest : List ℕ
  pub name : List ℕ
  pub worded : IsWorded line.text word rest
  pub word_is : same_word word (codes "FILE") ≡ true
  pub parts : AreFileParts rest kind name options
  pub named : same_text name (codes "$(NAMED_GUID)") ≡ true
  pub filled : holds_other line.text ≡ false

-- the word of a section's kind, and what follows it
pub record IsKind (line : Line) (known : RuleKind) (rest : List ℕ) : Type 0 where
  pub plain : IsPlain line
  pub word : List ℕ
  pub worded : IsWorded line.text word rest
  pub no_brace : is_close line.text ≡ false
  pub kind_is : rule_kind word ≡ Some known

-- the kind of a section whose bytes are those of a file
abbrev pub HoldsFile : RuleKind → ℕ → List ℕ → Type 0
HoldsFile (kinds.Plain kind) number word = kind ≡ number
HoldsFile (kinds.Worded kind) number word = (kind ≡ number) × (is_string word ≡ false)
HoldsFile kinds.Compressed number word = ⊥

-- options of a rule's section, and the number that they state
pub record AreRuleOptions (line : Line) (text : List ℕ) (options : RuleOptions) (number : ℕ)
    (rest : List ℕ) : Type 0 where
  pub written : List ℕ
  pub parts : StatesRule text options written rest
  pub number_is : stated_number line options.numbered written ≡ Ok number

-- `KIND KIND OPTIONS path`
pub record IsRulePath (line : Line) (kind : ℕ) (options : RuleOptions) (number : ℕ)
    (path : List ℕ) : Type 0 where
  pub known : RuleKind
  pub rest : List ℕ
  pub second : List ℕ
  pub more : List ℕ
  pub kinded : IsKind line known rest
  pub worded : IsWorded rest second more
  pub holds : HoldsFile known kind second
  pub same : same_word second kinded.word ≡ true
  pub options_are : AreRuleOptions line more options number path
  pub some : 0 < length path
  pub no_extension : is_extension path ≡ false
  pub filled_before : holds_other (take (length line.text - length path) line.text) ≡ false
  pub filled_in : holds_other (without_workspace path) ≡ false

-- `KIND KIND OPTIONS |.extension`
pub record IsRuleExtension (line : Line) (kind : ℕ) (options : RuleOptions) (number : ℕ) : Type 0
  where
    pub known : RuleKind
    pub rest : List ℕ
    pub second : List ℕ
    pub more : List ℕ
    pub path : List ℕ
    pub kinded : IsKind line known rest
    pub worded : IsWorded rest second more
    pub holds : HoldsFile known kind second
    pub options_are : AreRuleOptions line more options number path
    pub extension : is_extension path ≡ true
    pub filled : holds_other line.text ≡ false

-- `KIND STRING ="text" OPTIONS`
pub record IsRuleText (line : Line) (kind : ℕ) (options : RuleOptions) (number : ℕ)
    (words : List ℕ) : Type 0 where
  pub rest : List ℕ
  pub second : List ℕ
  pub more : List ℕ
  pub value : List ℕ
  pub after : List ℕ
  pub kinded : IsKind line (kinds.Worded kind) rest
  pub worded : IsWorded rest second more
  pub string : is_string second ≡ true
  pub stated : IsStated more value
  pub quoted : quoted_front value ≡ Some (words, after)
  pub options_are : AreRuleOptions line after options number []
  pub filled : holds_other line.text ≡ false
