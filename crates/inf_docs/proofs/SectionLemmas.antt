-- The sections with one line more.
use Rattle.std.proofs.Common.{◌≡◌, ◌∙◌, List, [], ◌∷◌, ◌++◌, Option, Some, None, option_map, refl, sym, ap, append-nil}
use Rattle.std.specs.List.{flat_map}
use Rattle.std.proofs.lemmas.Grind.{flat_map-append}
use Rattle.build_base.specs.declared.fault.Place.{Place}
use Rattle.build_base.specs.declared.lines.Lines.{Lines}
use Rattle.doc_reading.specs.Blocks.{Block, are_heads, last_block, ended_blocks, with_line, made_of}
use Rattle.doc_reading.specs.Grammar.{Read, entered, gave}
use Rattle.doc_reading.proofs.BlockLemmas.{block_begun, block_first, block_taken, block_kept, block_ended}
use Rattle.doc_types.specs.declared.depex.DepexPart.{DepexPart}
use Rattle.inf_docs.specs.declared.depex.OpenSection.{OpenSection}
use Rattle.inf_docs.specs.declared.module.ModuleFormat.{ModuleFormat}
use Rattle.inf_docs.specs.declared.row.Row.{Row}
use Rattle.inf_docs.specs.declared.section.Scope.{Scope}
use Rattle.inf_docs.specs.Depex.{read_terms, opened_section, last_section, parts_in, block_parts, all_parts, with_terms, line_terms}
use Rattle.inf_docs.specs.Modules.{tables_of, document_of, module_made}
use Rattle.inf_docs.specs.Reading.{Holds}

terms_more : (rest : List (Read Scope Row)) (rows : List Row) → flat_map read_terms (rest ++ gave rows ∷ []) ≡ flat_map read_terms rest ++ line_terms rows
terms_more rest rows = flat_map-append read_terms rest (gave rows ∷ []) ∙ ap (λ ts. flat_map read_terms rest ++ ts) (append-nil (line_terms rows))

opened_more : (first : Read Scope Row) (terms : List _) (rows : List Row) → opened_section first (terms ++ line_terms rows) ≡ option_map (with_terms rows) (opened_section first terms)
opened_more (entered at scopes) terms rows = refl
opened_more (gave others) terms rows = refl

last_with : (block : Option (Block (Read Scope Row))) (rows : List Row)
    → last_section (option_map (λ b. with_line b (gave rows)) block) ≡ option_map (with_terms rows) (last_section block)
last_with None rows = refl
last_with (Some block) rows = ap (opened_section block.first) (terms_more block.rest rows) ∙ opened_more block.first (flat_map read_terms block.rest) rows

-- a line that gives rows
pub section_more : (above : List (Read Scope Row)) (old new : Option OpenSection) (rows : List Row)
    → old ≡ last_section (last_block are_heads above) → new ≡ option_map (with_terms rows) old → new ≡ last_section (last_block are_heads (above ++ gave rows ∷ []))
section_more above old new rows o n =
    n ∙ ap (option_map (with_terms rows)) o ∙ sym (last_with (last_block are_heads above) rows) ∙ sym (ap last_section (block_taken are_heads above (gave rows) refl))

pub parts_same : (above : List (Read Scope Row)) (parts : List DepexPart) (rows : List Row)
    → parts ≡ flat_map block_parts (ended_blocks are_heads above) → parts ≡ flat_map block_parts (ended_blocks are_heads (above ++ gave rows ∷ []))
parts_same above parts rows p = p ∙ sym (ap (flat_map block_parts) (block_kept are_heads above (gave rows) refl))

made_last : (block : Option (Block (Read Scope Row))) → made_of block_parts block ≡ parts_in (last_section block)
made_last None = refl
made_last (Some block) = refl

-- heads
pub section_begun : (above : List (Read Scope Row)) (at : Place) (scopes : List Scope) (new : Option OpenSection)
    → new ≡ opened_section (entered at scopes) [] → new ≡ last_section (last_block are_heads (above ++ entered at scopes ∷ []))
section_begun above at scopes new n = n ∙ sym (ap last_section (block_first are_heads above (entered at scopes) refl))

pub parts_begun : (above : List (Read Scope Row)) (at : Place) (scopes : List Scope) (section : Option OpenSection) (done new : List DepexPart)
    → section ≡ last_section (last_block are_heads above) → done ≡ flat_map block_parts (ended_blocks are_heads above) → new ≡ done ++ parts_in section
    → new ≡ flat_map block_parts (ended_blocks are_heads (above ++ entered at scopes ∷ []))
parts_begun above at scopes section done new s d n =
    block_begun are_heads block_parts above (entered at scopes) done new refl d
    (n ∙ ap (λ o. done ++ parts_in o) s ∙ ap (λ ps. done ++ ps) (sym (made_last (last_block are_heads above))))

-- the last line
pub parts_ended : (above : List (Read Scope Row)) (section : Option OpenSection) (done : List DepexPart)
    → section ≡ last_section (last_block are_heads above) → done ≡ flat_map block_parts (ended_blocks are_heads above) → done ++ parts_in section ≡ all_parts above
parts_ended above section done s d =
    block_ended are_heads block_parts above done (done ++ parts_in section) d
    (ap (λ o. done ++ parts_in o) s ∙ ap (λ ps. done ++ ps) (sym (made_last (last_block are_heads above))))

-- the document of what is held after the last line
pub module_told : (lines : Lines) (reads : List (Read Scope Row)) (format : ModuleFormat) → Holds reads format
    → document_of lines.root format.tables (format.parts ++ parts_in format.section) ≡ module_made lines reads
unfolding module_made
module_told lines reads format h =
    ap (λ t. document_of lines.root t (format.parts ++ parts_in format.section)) h.tables
    ∙ ap (document_of lines.root (tables_of reads)) (parts_ended reads format.section format.parts h.section h.parts)
