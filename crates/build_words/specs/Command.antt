-- The command that reads the words of a build, and the words that it takes (EDK II Build
-- specification, options of `build`).
use Rattle.std.specs.Prelude.{ℕ, Bool, true, false, List, [], ◌∷◌, Some, codes}
use Rattle.clap.specs.Words.{App, Kinds, Row, Rule, Text, fault_of, matches_of, new_rule}
use Rattle.clap.specs.Simple.{new_shape, with_rule}
use Rattle.clap.specs.declared.builder.action.ArgAction.{ArgAction}
use Rattle.clap.specs.declared.builder.action.ArgAction.TheVariants.{Set, Append}

-- an option with one value: `-c VALUE` or `--name VALUE`
abbrev pub option_of : Text → ℕ → ArgAction → Bool → Rule
option_of name letter action required = record (new_rule name) {
  long = Some name;
  short = Some letter;
  action = Some action;
  required = required;
}

abbrev pub long_option : Text → ArgAction → Rule
long_option name action = record (new_rule name) { long = Some name; action = Some action }

abbrev pub short_option : Text → ℕ → ArgAction → Rule
short_option name letter action =
    record (new_rule name) { short = Some letter; action = Some action }

-- of an option that is Set only one value is taken, of one that is Append any number; the number of
-- workers has a letter alone
abbrev pub build_rules : List Rule
build_rules =
    option_of (codes "platform") 112 Set true ∷
    option_of (codes "buildtarget") 98 Set false ∷
    option_of (codes "tagname") 116 Set false ∷
    option_of (codes "sku-id") 120 Set false ∷
    short_option (codes "workers") 110 Set ∷
    option_of (codes "fdf") 102 Set false ∷
    option_of (codes "report-file") 121 Set false ∷
    option_of (codes "arch") 97 Append false ∷
    option_of (codes "rom-image") 114 Append false ∷
    option_of (codes "fv-image") 105 Append false ∷
    option_of (codes "define") 68 Append false ∷
    long_option (codes "pcd") Append ∷ []

abbrev pub bare_app : App
bare_app =
    record { top = record (new_shape (codes "build")) { disable_help_flag = true }; subs = [] }

-- a command with the options of a group more
abbrev pub names_app : App → App
names_app app =
    with_rule
    (with_rule
    (with_rule (with_rule app (option_of (codes "platform") 112 Set true))
    (option_of (codes "buildtarget") 98 Set false)) (option_of (codes "tagname") 116 Set false))
    (option_of (codes "sku-id") 120 Set false)

abbrev pub files_app : App → App
files_app app =
    with_rule
    (with_rule (with_rule app (short_option (codes "workers") 110 Set))
    (option_of (codes "fdf") 102 Set false)) (option_of (codes "report-file") 121 Set false)

abbrev pub images_app : App → App
images_app app =
    with_rule
    (with_rule (with_rule app (option_of (codes "arch") 97 Append false))
    (option_of (codes "rom-image") 114 Append false)) (option_of (codes "fv-image") 105 Append false)

abbrev pub settings_app : App → App
settings_app app =
    with_rule (with_rule app (option_of (codes "define") 68 Append false))
    (long_option (codes "pcd") Append)

-- the command, of which the first word is its name
unfoldable pub build_app : App
build_app = record {
  top = record (new_shape (codes "build")) { rules = build_rules; disable_help_flag = true };
  subs = [];
}

abbrev pub are_none : Kinds → Bool
are_none [] = true
are_none (k ∷ rest) = false

-- whether the command takes the words
unfoldable pub is_taken : List Text → Bool
is_taken words = are_none (fault_of build_app words)

-- what the command finds for each option
unfoldable pub rows_in : List Text → List Row
rows_in words = matches_of build_app words
