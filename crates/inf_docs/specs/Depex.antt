-- The terms of [Depex] sections, and the parts that they make (EDK II INF specification, [Depex]
-- section).
use Rattle.std.specs.Prelude.{ℕ, Bool, true, false, ◌==◌, ◌||◌, ◌++◌, if◌then◌else◌, List, [], ◌∷◌, length, Option, Some, None}
use Rattle.std.specs.List.{flat_map}
use Rattle.build_base.specs.declared.fault.Fault.{Fault}
use Rattle.build_base.specs.declared.lines.Taken.{Taken}
use Rattle.doc_reading.specs.Blocks.{Block, sections_of}
use Rattle.doc_reading.specs.Grammar.{Read, entered, gave}
use Rattle.doc_reading.specs.ValueFields.{undefined_macro}
use Rattle.doc_reading.specs.Values.{of_read_line}
use Rattle.doc_types.specs.declared.depex.DepexPart.{DepexPart}
use Rattle.meta_lexer.specs.Parts.{words_of}
use Rattle.inf_docs.specs.declared.depex.OpenSection.{OpenSection}
use Rattle.inf_docs.specs.declared.row.Row.{Row}
use Rattle.inf_docs.specs.declared.row.Row.TheVariants.{Terms}
use Rattle.inf_docs.specs.declared.section.Scope.{Scope}
use Rattle.inf_docs.specs.declared.section.SectionKind.{SectionKind}
use Rattle.inf_docs.specs.declared.section.SectionKind.TheVariants.{Depex}

-- a parenthesis has a blank on both sides
abbrev pub apart : ℕ → List ℕ
apart byte = if (byte == 40) || (byte == 41) then 32 ∷ byte ∷ 32 ∷ [] else byte ∷ []

-- the words, where each parenthesis is a word of its own
unfoldable pub terms_of : List ℕ → List (List ℕ)
terms_of text = words_of (flat_map apart text)

unfoldable pub terms_faults : Taken → List (Option Fault)
terms_faults line = of_read_line line (undefined_macro line.at line.text ∷ [])

abbrev pub has_terms : Row → Bool
has_terms (Terms terms) = true
has_terms row = false

abbrev pub terms_in : Row → List (List ℕ)
terms_in (Terms terms) = terms
terms_in row = []

-- the terms of a line: below several heads of [Depex] it has them once for each
unfoldable pub line_terms : List Row → List (List ℕ)
line_terms [] = []
line_terms (row ∷ rows) = if has_terms row then terms_in row else line_terms rows

abbrev pub read_terms : Read Scope Row → List (List ℕ)
read_terms (entered at scopes) = []
read_terms (gave rows) = line_terms rows

abbrev pub is_depex : SectionKind → Bool
is_depex Depex = true
is_depex kind = false

-- a section: its heads' place and scopes, and the terms of its lines
abbrev pub opened_section : Read Scope Row → List (List ℕ) → Option OpenSection
opened_section (entered at scopes) terms = Some (record { at = at; scopes = scopes; terms = terms })
opened_section (gave rows) terms = None

abbrev pub section_in : Block (Read Scope Row) → Option OpenSection
section_in block = opened_section block.first (flat_map read_terms block.rest)

abbrev pub part_of : OpenSection → Scope → List DepexPart
part_of section scope =
    if is_depex scope.kind
    then record { at = section.at; arch = scope.arch; kind = scope.for_type; terms = section.terms }
    ∷ []
    else []

-- one part for each head that is [Depex], where there is a term
abbrev pub parts_of : OpenSection → List DepexPart
parts_of section = if length section.terms == 0 then []
    else flat_map (part_of section) section.scopes

abbrev pub parts_in : Option OpenSection → List DepexPart
parts_in (Some section) = parts_of section
parts_in None = []

abbrev pub block_parts : Block (Read Scope Row) → List DepexPart
block_parts block = parts_in (section_in block)

-- the parts of all sections
abbrev pub all_parts : List (Read Scope Row) → List DepexPart
all_parts reads = flat_map block_parts (sections_of reads)

-- the section of the last block
abbrev pub last_section : Option (Block (Read Scope Row)) → Option OpenSection
last_section (Some block) = section_in block
last_section None = None

-- with the terms of one line more
abbrev pub with_terms : List Row → OpenSection → OpenSection
with_terms rows section = record section { terms = section.terms ++ line_terms rows }
