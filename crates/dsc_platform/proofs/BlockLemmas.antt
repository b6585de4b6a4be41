-- The blocks of components with one line more.
use Rattle.std.proofs.Common.{◌≡◌, ◌∙◌, true, false, List, [], ◌∷◌, ◌++◌, refl, sym, ap, append-nil}
use Rattle.std.specs.List.{flat_map}
use Rattle.std.proofs.lemmas.Grind.{flat_map-append}
use Rattle.doc_reading.specs.Blocks.{Block, blocks, with_line}
use Rattle.doc_reading.proofs.BlockLemmas.{blocks_begin, blocks_none, blocks_more}
use Rattle.doc_types.specs.declared.platform.Component.{Component}
use Rattle.dsc_lines.specs.declared.rows.Part.{Part}
use Rattle.dsc_lines.specs.declared.rows.DscRow.{DscRow}
use Rattle.build_base.specs.declared.fault.Place.{Place}
use Rattle.doc_reading.specs.Grammar.{Read, entered, gave}
use Rattle.dsc_lines.specs.declared.section.Scope.{Scope}
use Rattle.dsc_lines.specs.declared.open_mark.Open.{Open}
use Rattle.dsc_lines.specs.declared.open_mark.Open.TheVariants.{Shut}
use Rattle.dsc_lines.specs.Standing.{parts_in, said_marks, last_mark, open_below}
use Rattle.dsc_platform.specs.Cutting.{begins, built, all_parts, block_components, line_in, lines_of, BlocksHeld, none, some}

one_block : (front : List (Block (List Part))) (block : Block (List Part)) → flat_map block_components (front ++ block ∷ []) ≡ flat_map block_components front ++ block_components block
one_block front block = flat_map-append block_components front (block ∷ []) ∙ ap (λ cs. flat_map block_components front ++ cs) (append-nil (block_components block))

one_line : (lines : List (List Part)) (rows : List Part) → all_parts (lines ++ rows ∷ []) ≡ all_parts lines ++ rows
one_line lines rows = flat_map-append (λ rs. rs) lines (rows ∷ []) ∙ ap (λ rs. all_parts lines ++ rs) (append-nil rows)

-- a line that begins components
pub block_begun : (lines : List (List Part)) (done new : List Component) (first rest rows : List Part) → BlocksHeld lines done first rest
    → begins rows ≡ true → new ≡ done ++ built first rest → BlocksHeld (lines ++ rows ∷ []) new rows []
block_begun lines done new first rest rows (none b d f) t n =
    some [] (record { first = rows; rest = [] })
    (blocks_begin begins lines rows t ∙ ap (λ bs. bs ++ record { first = rows; rest = [] } ∷ []) b)
    (n ∙ ap (λ fs. done ++ built fs rest) f ∙ append-nil done ∙ d)
    refl refl
block_begun lines done new first rest rows (some front block b d f r) t n =
    some (front ++ block ∷ []) (record { first = rows; rest = [] })
    (blocks_begin begins lines rows t ∙ ap (λ bs. bs ++ record { first = rows; rest = [] } ∷ []) b)
    (n ∙ ap (λ cs. cs ++ built first rest) d ∙ ap (λ fs. flat_map block_components front ++ built fs rest) f ∙ ap (λ rs. flat_map block_components front ++ built block.first rs) r ∙ sym (one_block front block))
    refl refl

-- another line
pub block_taken : (lines : List (List Part)) (done : List Component) (first rest new rows : List Part) → BlocksHeld lines done first rest
    → begins rows ≡ false → new ≡ rest ++ rows → BlocksHeld (lines ++ rows ∷ []) done first new
block_taken lines done first rest new rows (none b d f) t n = none (blocks_none begins lines rows t b) d f
block_taken lines done first rest new rows (some front block b d f r) t n =
    some front (with_line block rows) (blocks_more begins lines rows front block t b) d f (n ∙ ap (λ rs. rs ++ rows) r ∙ sym (one_line block.rest rows))

-- all components
pub block_ended : (lines : List (List Part)) (done new : List Component) (first rest : List Part) → BlocksHeld lines done first rest
    → new ≡ done ++ built first rest → new ≡ flat_map block_components (blocks begins lines)
block_ended lines done new first rest (none b d f) n =
    n ∙ ap (λ fs. done ++ built fs rest) f ∙ append-nil done ∙ d ∙ sym (ap (flat_map block_components) b)
block_ended lines done new first rest (some front block b d f r) n =
    n ∙ ap (λ cs. cs ++ built first rest) d ∙ ap (λ fs. flat_map block_components front ++ built fs rest) f ∙ ap (λ rs. flat_map block_components front ++ built block.first rs) r ∙ sym (one_block front block) ∙ sym (ap (flat_map block_components) b)

-- the lines with one more
pub lines_more : (above : List (Read Scope DscRow)) (rows : List DscRow) → lines_of (above ++ gave rows ∷ []) ≡ lines_of above ++ flat_map parts_in rows ∷ []
lines_more above rows = flat_map-append line_in above (gave rows ∷ [])

pub lines_same : (above : List (Read Scope DscRow)) (at : Place) (scopes : List Scope) → lines_of (above ++ entered at scopes ∷ []) ≡ lines_of above
lines_same above at scopes = flat_map-append line_in above (entered at scopes ∷ []) ∙ append-nil (flat_map line_in above)

last_join : (standing : Open) (xs ys : List Open) → last_mark standing (xs ++ ys) ≡ last_mark (last_mark standing xs) ys
last_join standing [] ys = refl
last_join standing (x ∷ xs) ys = last_join x xs ys

-- what is open below more rows
pub open_more : (rows more : List DscRow) → open_below (rows ++ more) ≡ last_mark (open_below rows) (flat_map said_marks more)
open_more rows more = ap (last_mark Shut) (flat_map-append said_marks rows more) ∙ last_join Shut (flat_map said_marks rows) (flat_map said_marks more)
