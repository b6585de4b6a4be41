-- The statements of modules (EDK II FDF specification, section 3.7): options in any order, each at
-- most once, and then the path of the INF file.
use Rattle.std.specs.Prelude.{ℕ, ◌+◌, Bool, ◌==◌, nat_lt, if◌then◌else◌, List, [], ◌∷◌, length, take, drop, Option, Some, None, is_some, unwrap_or, codes}
use Rattle.std.specs.List.{position_or_len}
use Rattle.std.specs.Option.{option_and_then}
use Rattle.build_base.specs.FaultText.{fault_of}
use Rattle.build_base.specs.Path.{path_field}
use Rattle.build_base.specs.declared.fault.Fault.{Fault}
use Rattle.build_base.specs.declared.lines.Taken.{Taken}
use Rattle.macro_expressions.specs.Macros.{without_workspace}
use Rattle.meta_lexer.specs.Lines.{without_blanks}
use Rattle.meta_lexer.specs.Lookup.{lookup}
use Rattle.meta_lexer.specs.Words.{is_identifier}
use Rattle.doc_reading.specs.ValueFields.{undefined_macro}
use Rattle.doc_reading.specs.Values.{require}
use Rattle.doc_types.specs.Arches.{arch_named}
use Rattle.doc_types.specs.declared.arch.Arch.{Arch}
use Rattle.doc_types.specs.declared.arch.Arch.TheVariants.{Common}
use Rattle.doc_types.specs.declared.volume.InfLine.{InfLine}
use Rattle.fdf_volumes.specs.declared.inf_line.InfOption.{InfOption}
use Rattle.fdf_volumes.specs.declared.inf_line.InfOption.TheVariants.{RuleOverride, Use, Version, Ui}
use Rattle.fdf_volumes.specs.declared.inf_line.InfOptions.{InfOptions}
use Rattle.fdf_words.specs.Numbers.{bad_line}
use Rattle.fdf_volumes.specs.Statements.{macro_before, full_fault}
use Rattle.fdf_words.specs.Words.{begins_with, word_of, after_word, after_equals}
use Rattle.build_base.specs.FaultCodes.{BAD_INF_LINE, BAD_PATH}

abbrev pub inf_options : List (List ℕ × InfOption)
inf_options = (codes "RuleOverride", RuleOverride) ∷ (codes "USE", Use) ∷ (codes "VERSION", Version)
    ∷ (codes "UI", Ui) ∷ []

unfoldable pub inf_option : List ℕ → Option InfOption
inf_option word = lookup inf_options word

-- the text up to a quote, and what follows it
abbrev pub up_to_quote : List ℕ → Option (List ℕ × List ℕ)
up_to_quote text =
    let i = position_or_len (λ b. b == 34) text in
    if nat_lt i (length text) then Some (take i text, without_blanks (drop (i + 1) text)) else None

-- a text in quotes at the front, without them, and what follows it
unfoldable pub quoted_front : List ℕ → Option (List ℕ × List ℕ)
quoted_front text = if begins_with 34 text then up_to_quote (drop 1 text) else None

abbrev pub with_rule : InfOptions → List ℕ → Option (InfOptions × List ℕ)
with_rule options value = if is_some options.template then None
    else Some (record options { template = Some (word_of value) }, after_word value)

abbrev pub with_use : InfOptions → List ℕ → Option (InfOptions × List ℕ)
with_use options value = if is_some options.arch then None
    else Some (record options { arch = Some (word_of value) }, after_word value)

abbrev pub with_version : InfOptions → Option (List ℕ × List ℕ) → Option (InfOptions × List ℕ)
with_version options (Some p) = if is_some options.version then None
    else Some (record options { version = Some p.0 }, p.1)
with_version options None = None

abbrev pub with_ui : InfOptions → Option (List ℕ × List ℕ) → Option (InfOptions × List ℕ)
with_ui options (Some p) = if is_some options.ui then None
    else Some (record options { ui = Some p.0 }, p.1)
with_ui options None = None

-- an option is a word and a value; another text begins the path
abbrev pub with_inf : InfOptions → List ℕ → Option InfOption → Option (List ℕ)
    → Option (InfOptions × List ℕ)
with_inf options text (Some RuleOverride) (Some value) = with_rule options value
with_inf options text (Some Use) (Some value) = with_use options value
with_inf options text (Some Version) (Some value) = with_version options (quoted_front value)
with_inf options text (Some Ui) (Some value) = with_ui options (quoted_front value)
with_inf options text (Some option) None = Some (options, text)
with_inf options text None value = Some (options, text)

unfoldable pub next_inf : InfOptions → List ℕ → Option (InfOptions × List ℕ)
next_inf options text = with_inf options text (inf_option (word_of text))
    (after_equals (after_word text))

abbrev pub and_inf : Option (InfOptions × List ℕ) → Option (InfOptions × List ℕ)
and_inf = option_and_then (λ p. next_inf p.0 p.1)

abbrev pub no_inf_options : InfOptions
no_inf_options = record { template = None; arch = None; version = None; ui = None }

-- the options and the path; a fifth option stands there twice
unfoldable pub inf_parts : List ℕ → Option (InfOptions × List ℕ)
inf_parts text = and_inf (and_inf (and_inf (and_inf (next_inf no_inf_options text))))

abbrev pub inf_path_fault : Taken → List ℕ → Option Fault
inf_path_fault line path =
    if length path == 0 then Some (bad_line BAD_INF_LINE line)
    else require (path_field (without_workspace path)) (fault_of BAD_PATH line.at path)

abbrev pub template_fault : Taken → Option (List ℕ) → Option Fault
template_fault line (Some name) = if is_identifier name
    then None else Some (bad_line BAD_INF_LINE line)
template_fault line None = None

-- an architecture that isn't all of them
abbrev pub one_arch : Option Arch → Option Arch
one_arch (Some Common) = None
one_arch arch = arch

abbrev pub use_fault : Taken → Option (List ℕ) → Option Fault
use_fault line (Some word) = require (one_arch (arch_named word)) (bad_line BAD_INF_LINE line)
use_fault line None = None

abbrev pub used_arch : Option (List ℕ) → Option Arch
used_arch (Some word) = one_arch (arch_named word)
used_arch None = None

abbrev pub inf_parts_faults : Taken → Bool → Option (InfOptions × List ℕ) → List (Option Fault)
inf_parts_faults line full (Some p) =
    macro_before line p.1 ∷ inf_path_fault line p.1 ∷ template_fault line p.0.template
    ∷ use_fault line p.0.arch ∷ full_fault line full ∷ []
inf_parts_faults line full None = undefined_macro line.at line.text
    ∷ Some (bad_line BAD_INF_LINE line)
    ∷ full_fault line full ∷ []

abbrev pub made_inf : Taken → InfOptions → Option (List ℕ) → Option InfLine
made_inf line options (Some path) =
    Some
    (record {
      at = line.at;
      inf = path;
      arch = used_arch options.arch;
      template =
          unwrap_or options.template [];
      version = options.version;
      ui = options.ui;
    })
made_inf line options None = None

abbrev pub inf_parts_line : Taken → Option (InfOptions × List ℕ) → Option InfLine
inf_parts_line line (Some p) = made_inf line p.0 (path_field (without_workspace p.1))
inf_parts_line line None = None

unfoldable pub inf_faults : Taken → Bool → List (Option Fault)
inf_faults line full = inf_parts_faults line full (inf_parts (after_word line.text))

unfoldable pub inf_of : Taken → Option InfLine
inf_of line = inf_parts_line line (inf_parts (after_word line.text))
