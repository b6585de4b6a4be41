-- How many heads and statements there are.
use Rattle.std.specs.Prelude.{ℕ, ◌+◌, Bool, true, false, if◌then◌else◌, List, [], ◌∷◌, Option, Some, None, min}
use Rattle.std.specs.List.{list_any}
use Rattle.meta_lexer.specs.Parts.{first_text}
use Rattle.meta_lexer.specs.declared.head.Head.{Head}
use Rattle.doc_reading.specs.Blocks.{are_heads}
use Rattle.doc_reading.specs.Grammar.{Read, entered, gave}
use Rattle.fdf_words.specs.declared.rows.Row.{Row}
use Rattle.fdf_words.specs.declared.rows.Row.TheVariants as row
use Rattle.fdf_words.specs.declared.rows.Scope.{Scope}
use Rattle.fdf_words.specs.declared.rows.Scope.TheVariants as scope
use Rattle.fdf_lines.specs.declared.section.FlashSection.{FlashSection}
use Rattle.fdf_lines.specs.declared.section.FlashSection.TheVariants.{Defines, Device, Volume, Rule}
use Rattle.fdf_lines.specs.Sections.{section_named}

abbrev pub count_of : {T : Type 0} → (T → ℕ) → List T → ℕ
count_of counts [] = 0
count_of counts (x ∷ xs) = counts x + count_of counts xs

-- as far as 64 bits count
abbrev pub saturated : ℕ → ℕ
saturated n = min n 18446744073709551615

abbrev pub one_if : Bool → ℕ
one_if true = 1
one_if false = 0

unfoldable pub same_section : FlashSection → FlashSection → Bool
same_section Defines Defines = true
same_section Device Device = true
same_section Volume Volume = true
same_section Rule Rule = true
same_section section other = false

abbrev pub section_of : Scope → FlashSection
section_of scope.Settings = Defines
section_of (scope.Device name) = Device
section_of (scope.Volume name) = Volume
section_of (scope.Rule rule) = Rule

abbrev pub one_scope : FlashSection → Scope → ℕ
one_scope section s = one_if (same_section (section_of s) section)

abbrev pub scopes_in : FlashSection → Read Scope Row → ℕ
scopes_in section (entered at scopes) = count_of (one_scope section) scopes
scopes_in section (gave rows) = 0

-- the heads of a section above
abbrev pub heads_above : FlashSection → List (Read Scope Row) → ℕ
heads_above section reads = count_of (scopes_in section) reads

abbrev pub is_named : FlashSection → Option (Option FlashSection) → Bool
is_named section (Some (Some named)) = same_section named section
is_named section (Some None) = false
is_named section None = false

abbrev pub one_head : FlashSection → Head → ℕ
one_head section head = one_if (is_named section (section_named (first_text head.parts)))

-- those of a line
abbrev pub heads_here : FlashSection → List Head → ℕ
heads_here section heads = count_of (one_head section) heads

-- a statement of a volume; what stands in the braces of an a priori file is none
abbrev pub is_statement : Row → Bool
is_statement (row.Apriori head) = true
is_statement (row.Inf inf) = true
is_statement (row.File head) = true
is_statement _ = false

abbrev pub begins_statement : List Row → Bool
begins_statement rows = list_any is_statement rows

abbrev pub statements_in : Read Scope Row → ℕ
statements_in (entered at scopes) = 0
statements_in (gave rows) = one_if (begins_statement rows)

-- the lines from the last heads on
abbrev pub lines_here : List (Read Scope Row) → List (Read Scope Row)
lines_here [] = []
lines_here (read ∷ reads) = if list_any are_heads reads then lines_here reads else read ∷ reads

-- the statements of each volume below them
abbrev pub statements_here : List (Read Scope Row) → ℕ
statements_here reads = count_of statements_in (lines_here reads)
