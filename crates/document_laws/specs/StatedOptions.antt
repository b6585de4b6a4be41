-- Which options a statement of a volume states (EDK II FDF specification, section 3.7), without
-- saying how they are found: options one behind the other, each at most once, up to a text that is
-- none.
use Rattle.std.specs.Prelude.{◌≡◌, ◌⊎◌, ℕ, true, false, List, [], ◌∷◌, Option, Some, None}
use Rattle.doc_types.specs.declared.volume.Align.TheVariants.{Unset, Bytes}
use Rattle.fdf_words.specs.declared.words.FileOption.{FileOption}
use Rattle.fdf_words.specs.declared.words.FileOption.TheVariants.{Fixed, Checksum, Aligned}
use Rattle.fdf_words.specs.declared.words.Options.{Options}
use Rattle.fdf_words.specs.Words.{word_of, after_word, after_equals, option_named, stated_align, no_options}
use Rattle.fdf_volumes.specs.declared.inf_line.InfOption.{InfOption}
use Rattle.fdf_volumes.specs.declared.inf_line.InfOption.TheVariants.{RuleOverride, Use, Version, Ui}
use Rattle.fdf_volumes.specs.declared.inf_line.InfOptions.{InfOptions}
use Rattle.fdf_lines.specs.declared.rule_options.RuleOption.{RuleOption}
use Rattle.fdf_lines.specs.declared.rule_options.RuleOption.TheVariants as rule
use Rattle.fdf_lines.specs.declared.rule_options.RuleOptions.{RuleOptions}
use Rattle.fdf_lines.specs.Rules.{rule_option, rule_align, no_rule_options}
use Rattle.doc_types.specs.declared.volume.Align.{Align}
use Rattle.fdf_volumes.specs.InfLines.{inf_option, quoted_front, no_inf_options}

-- a module's option that isn't stated above
abbrev pub IsNew : InfOptions → InfOption → Type 0
IsNew options RuleOverride = options.template ≡ None
IsNew options Use = options.arch ≡ None
IsNew options Version = options.version ≡ None
IsNew options Ui = options.ui ≡ None

-- the options with one more
abbrev pub with_stated : InfOptions → InfOption → List ℕ → InfOptions
with_stated options RuleOverride value = record options { template = Some value }
with_stated options Use value = record options { arch = Some value }
with_stated options Version value = record options { version = Some value }
with_stated options Ui value = record options { ui = Some value }

-- the value of an option, and what follows it: one word, or a text in quotes
abbrev pub IsValue : InfOption → List ℕ → List ℕ → List ℕ → Type 0
IsValue RuleOverride text value next = (word_of text ≡ value) × (after_word text ≡ next)
IsValue Use text value next = (word_of text ≡ value) × (after_word text ≡ next)
IsValue Version text value next = quoted_front text ≡ Some (value, next)
IsValue Ui text value next = quoted_front text ≡ Some (value, next)

-- `NAME = VALUE`, and what follows it
pub record IsInfOption (text : List ℕ) (option : InfOption) (value next : List ℕ) : Type 0 where
  pub stated : List ℕ
  pub name : inf_option (word_of text) ≡ Some option
  pub equals : after_equals (after_word text) ≡ Some stated
  pub value_is : IsValue option stated value next

-- no option begins a text: its first word is no option's name, or no `=` follows it
abbrev pub BeginsNoOption : List ℕ → Type 0
BeginsNoOption text = (inf_option (word_of text) ≡ None) ⊎ (after_equals (after_word text) ≡ None)

-- what is stated between the options `before` and `after`, and what stands behind it
abbrev pub AreInfOptions : InfOptions → List ℕ → List (InfOption × List ℕ) → InfOptions → List ℕ
    → Type 0
AreInfOptions before text [] after rest =
    (before ≡ after) × (text ≡ rest) × BeginsNoOption text
AreInfOptions before text (option ∷ options) after rest =
    IsNew before option.0
    × ((next : List ℕ) × IsInfOption text option.0 option.1 next
    × AreInfOptions (with_stated before option.0 option.1) next options after rest)

-- the options of a module's statement, and what stands behind them
pub record StatesInf (text : List ℕ) (options : InfOptions) (rest : List ℕ) : Type 0 where
  pub stated : List (InfOption × List ℕ)
  pub are : AreInfOptions no_inf_options text stated options rest

-- a file's option that isn't stated above
abbrev pub IsNewInFile : Options → FileOption → Type 0
IsNewInFile options Fixed = options.fixed ≡ false
IsNewInFile options Checksum = options.checksum ≡ false
IsNewInFile options Aligned = options.align ≡ Unset

-- the options with one more, and what follows it
abbrev pub IsFileOption : List ℕ → Options → FileOption → Options → List ℕ → Type 0
IsFileOption text before Fixed after next =
    (record before { fixed = true } ≡ after) × (after_word text ≡ next)
IsFileOption text before Checksum after next =
    (record before { checksum = true } ≡ after) × (after_word text ≡ next)
IsFileOption text before Aligned after next =
    (bytes : ℕ) × (stated_align (after_word text) ≡ Some (bytes, next))
    × (record before { align = Bytes bytes } ≡ after)

-- what a text states, all of which are options
abbrev pub AreFileOptions : Options → List ℕ → List FileOption → Options → Type 0
AreFileOptions before text [] after = (before ≡ after) × (text ≡ [])
AreFileOptions before text (option ∷ options) after =
    IsNewInFile before option × (option_named (word_of text) ≡ Some option)
    × ((between : Options) × (next : List ℕ) × IsFileOption text before option between next
    × AreFileOptions between next options after)

-- the options of a file's statement
pub record StatesFile (text : List ℕ) (options : Options) : Type 0 where
  pub stated : List FileOption
  pub are : AreFileOptions no_options text stated options

-- an option of a rule's section that isn't stated above
abbrev pub IsNewInRule : RuleOptions → RuleOption → Type 0
IsNewInRule options rule.Optional = options.optional ≡ false
IsNewInRule options rule.Aligned = options.align ≡ Unset
IsNewInRule options rule.BuildNumber = options.numbered ≡ false

-- the options and the build number's word with one option more, and what follows it
abbrev pub IsRuleOption : List ℕ → RuleOptions → List ℕ → RuleOption → RuleOptions → List ℕ → List ℕ
    → Type 0
IsRuleOption text before number rule.Optional after written next =
    (record before { optional = true } ≡ after) × (number ≡ written) × (after_word text ≡ next)
IsRuleOption text before number rule.Aligned after written next =
    (value : List ℕ) × (align : Align) × (after_equals (after_word text) ≡ Some value)
    × (rule_align (word_of value) ≡ Some align) × (record before { align = align } ≡ after)
    × (number ≡ written) × (after_word value ≡ next)
IsRuleOption text before number rule.BuildNumber after written next =
    (value : List ℕ) × (after_equals (after_word text) ≡ Some value)
    × (record before { numbered = true } ≡ after) × (word_of value ≡ written)
    × (after_word value ≡ next)

-- no option has this name and this value
abbrev pub IsNoRuleOption : Option RuleOption → Option (List ℕ) → Type 0
IsNoRuleOption None value = Unit {0}
IsNoRuleOption (Some rule.Optional) value = ⊥
IsNoRuleOption (Some rule.Aligned) None = Unit {0}
IsNoRuleOption (Some rule.Aligned) (Some value) = ⊥
IsNoRuleOption (Some rule.BuildNumber) None = Unit {0}
IsNoRuleOption (Some rule.BuildNumber) (Some value) = ⊥

-- what is stated between the options `before` and `after`, and what stands behind it
abbrev pub AreInRule : RuleOptions → List ℕ → List ℕ → List RuleOption → RuleOptions → List ℕ
    → List ℕ → Type 0
AreInRule before number text [] after written rest =
    (before ≡ after) × (number ≡ written) × (text ≡ rest)
    × IsNoRuleOption (rule_option (word_of text)) (after_equals (after_word text))
AreInRule before number text (option ∷ options) after written rest =
    IsNewInRule before option × (rule_option (word_of text) ≡ Some option)
    × ((between : RuleOptions) × (word : List ℕ) × (next : List ℕ)
    × IsRuleOption text before number option between word next
    × AreInRule between word next options after written rest)

-- the options of a rule's section, the word of its build number, and what stands behind them
pub record StatesRule (text : List ℕ) (options : RuleOptions) (written rest : List ℕ) : Type 0 where
  pub stated : List RuleOption
  pub are : AreInRule no_rule_options [] text stated options written rest
