-- The fault of a platform's document has a name.
use Rattle.std.proofs.Common.{ℕ, ◌+◌, ◌&&◌, List, [], ◌∷◌, Option, Some, None}
use Rattle.std.specs.Prelude.{codes}
use Rattle.std.specs.List.{list_any}
use Rattle.build_base.specs.FaultText.{fault_of}
use Rattle.build_base.specs.declared.fault.Place.{Place}
use Rattle.build_base.specs.declared.guid.Guid.{Guid}
use Rattle.build_base.specs.declared.lines.Lines.{Lines}
use Rattle.build_base.specs.declared.lines.Taken.{Taken}
use Rattle.meta_lexer.specs.Faults.{first_fault}
use Rattle.meta_lexer.specs.Parts.{field_texts}
use Rattle.meta_lexer.specs.Words.{same_word}
use Rattle.doc_reading.specs.Grammar.{Read, rows_of, read_of}
use Rattle.doc_types.specs.declared.arch.Arch.{Arch}
use Rattle.doc_types.specs.declared.platform.Component.{Component}
use Rattle.dsc_lines.specs.Standing.{open_below}
use Rattle.dsc_lines.specs.declared.open_mark.Open.{Open}
use Rattle.dsc_lines.specs.declared.open_mark.Open.TheVariants.{Shut, Untagged, Tagged}
use Rattle.dsc_lines.specs.declared.rows.DscRow.{DscRow}
use Rattle.dsc_lines.specs.declared.rows.SkuLine.{SkuLine}
use Rattle.dsc_lines.specs.declared.section.Scope.{Scope}
use Rattle.dsc_platform.specs.Cutting.{components_of}
use Rattle.dsc_platform.specs.Platform.{open_fault, dsc_grammar, whole_fault, required, with_required, document_of, platform_made, platform_of}
use Rattle.dsc_platform.specs.Repeats.{repeats, repeat_fault, repeats_fault}
use Rattle.dsc_platform.specs.SkuUses.{uses_of, is_known, unknown, chosen_unknown, use_fault, is_chosen, standing_fault, uses_fault}
use Rattle.dsc_platform.specs.SkuWalks.{parents_of, is_loop, loop_fault, loops_from, loops_fault}
use Rattle.dsc_platform.specs.Stating.{nothing, with_rows, names_of, names_in}
use Rattle.dsc_platform.specs.declared.stated.Stated.{Stated}
use Rattle.build_base.specs.FaultCodes.{DUPLICATE_COMPONENT, SKU_LOOP, SKU_UNKNOWN}
use Rattle.named_faults.specs.Named.{IsNamed, FailsByName}
use Rattle.named_faults.proofs.NamedLemmas.{if_named, or_else_named, first_named, unless_fails}
use Rattle.named_faults.proofs.CodeLemmas.{bad_component_named, dsc_missing_key_named, dsc_unknown_section_named, duplicate_component_named, sku_loop_named, sku_unknown_named}
use Rattle.text_faults.proofs.PartLemmas.{first_fault_named}
use Rattle.platform_faults.proofs.DscLineLemmas.{line_named, head_named}
use Rattle.text_faults.proofs.GrammarLemmas.{lines_named, IsNamedGrammar, whole_fails}
use Rattle.platform_faults.proofs.ItemTypes.{ItemOf}

open_named : (line : Taken) (standing : Open) → IsNamed (open_fault line standing)
open_named line Shut = tt
open_named line Untagged = bad_component_named
open_named line (Tagged tag) = bad_component_named

grammar_named : IsNamedGrammar dsc_grammar
grammar_named =
    record {
      heads = head_named;
      stray = dsc_unknown_section_named;
      rows = λ above line scope. line_named (names_in (rows_of above)) (open_below (rows_of above)) line scope;
      at_heads = λ above line heads. open_named line (open_below (rows_of above));
      left_open = λ above line. open_named line (open_below (rows_of above));
    }

-- components
repeat_named : (above : List Component) (component : Component) → IsNamed (repeat_fault above component)
repeat_named above component =
    if_named (list_any (λ old. repeats old component) above) (Some (fault_of DUPLICATE_COMPONENT component.at component.inf)) None duplicate_component_named tt

repeats_named : (components : List Component) → IsNamed (repeats_fault components)
unfolding repeats_fault
repeats_named components = lines_named (λ above component last. repeat_fault above component) [] components (λ above component last. repeat_named above component)

-- SKUs
abbrev SkuUse : Type 0
SkuUse = ItemOf (uses_of [])

unknown_named : (at : Place) (names : List (List ℕ)) (name : List ℕ) → IsNamed (unknown at names name)
unknown_named at names name = if_named (is_known names name) None (Some (fault_of SKU_UNKNOWN at name)) tt sku_unknown_named

chosen_named : (at : Place) (names : List (List ℕ)) (text : List ℕ) → IsNamed (chosen_unknown at names text)
chosen_named at names text =
    if_named (same_word text (codes "ALL")) None (first_fault (unknown at names) (field_texts text)) tt (first_fault_named (unknown at names) (field_texts text) (unknown_named at names))

use_named : (names : List (List ℕ)) (use_ : SkuUse) → IsNamed (use_fault names use_)
use_named names use_ =
    if_named use_.chosen (chosen_unknown use_.at names use_.text) (unknown use_.at names use_.text) (chosen_named use_.at names use_.text) (unknown_named use_.at names use_.text)

uses_named : (names : List (List ℕ)) (uses : List SkuUse) → IsNamed (uses_fault names uses)
uses_named names [] = tt
uses_named names (use_ ∷ later) =
    or_else_named (standing_fault names use_ later) (uses_fault names later)
    (if_named (use_.chosen && list_any is_chosen later) None (use_fault names use_) tt (use_named names use_)) (uses_named names later)

loops_from_named : (parents : List (Option ℕ)) (place : ℕ) (skus : List SkuLine) → IsNamed (loops_from parents place skus)
loops_from_named parents place [] = tt
loops_from_named parents place (line ∷ lines) =
    or_else_named (loop_fault parents place line) (loops_from parents (place + 1) lines)
    (if_named (is_loop parents place) (Some (fault_of SKU_LOOP line.at line.sku.name)) None sku_loop_named tt) (loops_from_named parents (place + 1) lines)

loops_named : (skus : List SkuLine) → IsNamed (loops_fault skus)
unfolding loops_fault
loops_named skus = loops_from_named (parents_of skus) 0 skus

-- the document
whole_named : (skus : List SkuLine) (components : List Component) (uses : List SkuUse) → IsNamed (whole_fault skus components uses)
whole_named skus components uses =
    first_named (repeats_fault components ∷ uses_fault (names_of skus) uses ∷ loops_fault skus ∷ [])
    (repeats_named components, (uses_named (names_of skus) uses, (loops_named skus, tt)))

required_fails : (lines : Lines) (stated : Stated) (components : List Component) (uses : List SkuUse) (name : Option (List ℕ)) (guid : Option Guid) (arches : Option (List Arch))
    → FailsByName (required lines stated components uses name guid arches)
required_fails lines stated components uses None guid arches = dsc_missing_key_named
required_fails lines stated components uses (Some name) None arches = dsc_missing_key_named
required_fails lines stated components uses (Some name) (Some guid) None = dsc_missing_key_named
required_fails lines stated components uses (Some name) (Some guid) (Some arches) =
    unless_fails (whole_fault stated.skus components uses) (with_required lines stated.keys.options stated.skus stated.libraries stated.pcds components name guid arches)
    (whole_named stated.skus components uses)

made_fails : (lines : Lines) (reads : List (Read Scope DscRow)) → FailsByName (platform_made lines reads)
unfolding platform_made document_of
made_fails lines reads =
    let stated : Stated = with_rows nothing (rows_of reads) in
    required_fails lines stated (components_of reads) (uses_of reads) stated.keys.name stated.keys.guid stated.keys.arches

pub platform_fails : (lines : Lines) → FailsByName (platform_of lines)
unfolding platform_of
platform_fails lines = whole_fails dsc_grammar grammar_named (platform_made lines) lines.rows (λ e. made_fails lines (read_of dsc_grammar lines.rows))
