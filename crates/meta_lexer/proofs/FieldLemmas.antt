-- Parts between marks, byte by byte.
use Rattle.std.proofs.Common.{◌≡◌, ℕ, ◌+◌, ◌<◌, ◌≤◌, Bool, true, false, cond, List, [], ◌∷◌, ◌++◌, length, append_assoc, drop, get_or, refl, sym, ap, ◌∙◌, arith, rules}
use Rattle.std.proofs.lemmas.List.{at_drop_more, drop_all}
use Rattle.std.specs.List.{onto_first}
use Rattle.meta_lexer.specs.Fields.{spans, pieces_outside, after, nothing_open, separates, Open}
use Rattle.meta_lexer.specs.declared.field.Span.{Span}

-- the spans of pieces whose first piece has begun at `start`, the rest of it standing at `at`
abbrev pub spans_from : ℕ → ℕ → List (List ℕ) → List Span
spans_from start at [] = record { start = start; end = at } ∷ []
spans_from start at (p ∷ ps) = record { start = start; end = at + length p } ∷ spans (at + length p + 1) ps

spans_same : (at : ℕ) (q : List (List ℕ)) → 0 < length q → spans at q ≡ spans_from at at q
spans_same at [] h = absurd (omega arith)
spans_same at (p ∷ q) h = refl

some_first : (x : ℕ) (q : List (List ℕ)) → 0 < length (onto_first x q)
some_first x [] = search rules
some_first x (p ∷ q) = search rules

some_pieces : (nests : Bool) (mark : ℕ) (o : Open) (bs : List ℕ) → 0 < length (pieces_outside nests mark o bs)
unfolding pieces_outside
some_pieces nests mark o [] = search rules
some_pieces nests mark o (b ∷ bs) = elim (separates mark o b) as (λ t. 0 < length (cond t ([] ∷ pieces_outside nests mark (after nests o b) bs) (onto_first b (pieces_outside nests mark (after nests o b) bs)))) [ true ↦ search rules | false ↦ some_first b (pieces_outside nests mark (after nests o b) bs) ]

first_longer : (start at b : ℕ) (q : List (List ℕ)) → 0 < length q → spans_from start at (onto_first b q) ≡ spans_from start (at + 1) q
first_longer start at b [] h = absurd (omega arith)
first_longer start at b (p ∷ q) h = let e : at + length (b ∷ p) ≡ (at + 1) + length p = omega arith in rw e refl

-- a byte that separates ends a field
pub at_mark : (nests : Bool) (mark start at : ℕ) (o : Open) (b : ℕ) (bs : List ℕ) → separates mark o b ≡ true → spans_from start at (pieces_outside nests mark o (b ∷ bs)) ≡ record { start = start; end = at } ∷ spans_from (at + 1) (at + 1) (pieces_outside nests mark (after nests o b) bs)
unfolding pieces_outside
at_mark nests mark start at o b bs e =
    let q = pieces_outside nests mark (after nests o b) bs in
    let z : at + 0 ≡ at = omega arith in
    rw (e, z, spans_same (at + 1) q (some_pieces nests mark (after nests o b) bs)) refl

-- any other byte belongs to its field
pub at_other : (nests : Bool) (mark start at : ℕ) (o : Open) (b : ℕ) (bs : List ℕ) → separates mark o b ≡ false → spans_from start at (pieces_outside nests mark o (b ∷ bs)) ≡ spans_from start (at + 1) (pieces_outside nests mark (after nests o b) bs)
unfolding pieces_outside
at_other nests mark start at o b bs e = rw e (first_longer start at b (pieces_outside nests mark (after nests o b) bs) (some_pieces nests mark (after nests o b) bs))

-- the same in the loop, with `out` found so far
pub step_mark : (text : List ℕ) (nests : Bool) (mark start i : ℕ) (o next : Open) (out whole : List Span) → i < length text → separates mark o (get_or text i 0) ≡ true → next ≡ after nests o (get_or text i 0) → out ++ spans_from start i (pieces_outside nests mark o (drop i text)) ≡ whole → (out ++ record { start = start; end = i } ∷ []) ++ spans_from (i + 1) (i + 1) (pieces_outside nests mark next (drop (i + 1) text)) ≡ whole
step_mark text nests mark start i o next out whole l is e so_far =
    let more = at_drop_more (λ xs. spans_from start i (pieces_outside nests mark o xs)) text i 0 l in
    let cut = at_mark nests mark start i o (get_or text i 0) (drop (i + 1) text) is in
    rw (e, append_assoc) (ap (λ s. out ++ s) (sym (more ∙ cut)) ∙ so_far)

pub step_other : (text : List ℕ) (nests : Bool) (mark start i : ℕ) (o next : Open) (out whole : List Span) → i < length text → separates mark o (get_or text i 0) ≡ false → next ≡ after nests o (get_or text i 0) → out ++ spans_from start i (pieces_outside nests mark o (drop i text)) ≡ whole → out ++ spans_from start (i + 1) (pieces_outside nests mark next (drop (i + 1) text)) ≡ whole
step_other text nests mark start i o next out whole l is e so_far =
    let more = at_drop_more (λ xs. spans_from start i (pieces_outside nests mark o xs)) text i 0 l in
    let cut = at_other nests mark start i o (get_or text i 0) (drop (i + 1) text) is in
    rw e (ap (λ s. out ++ s) (sym (more ∙ cut)) ∙ so_far)

-- at the end the last field ends too
pub last_field : (text : List ℕ) (nests : Bool) (mark start i : ℕ) (o : Open) → length text ≤ i → spans_from start i (pieces_outside nests mark o (drop i text)) ≡ record { start = start; end = i } ∷ []
unfolding pieces_outside
last_field text nests mark start i o l =
    let z : i + 0 ≡ i = omega arith in
    rw (drop_all i text l, z) refl

pub at_start : (nests : Bool) (mark : ℕ) (text : List ℕ) → spans_from 0 0 (pieces_outside nests mark nothing_open text) ≡ spans 0 (pieces_outside nests mark nothing_open text)
at_start nests mark text = sym (spans_same 0 (pieces_outside nests mark nothing_open text) (some_pieces nests mark nothing_open text))
