-- Tables of places, made item by item.
use Rattle.std.proofs.Common.{◌≡◌, ◌∙◌, ℕ, ◌+◌, ◌<◌, ◌≤◌, Bool, true, false, cond, nat_eq, nat_lt, List, [], ◌∷◌, ◌++◌, length, take, drop, map, get_or, Option, Some, None, refl, sym, ap, subst, arith, add-one}
use Rattle.std.specs.HashMap.{HashMap, get}
use Rattle.std.specs.Cmp.Lexicographic.{pointwise, same_text}
use Rattle.std.proofs.Math.Seq.{take-suc}
use Rattle.std.proofs.lemmas.Bool.{ltb-true, ltb-false, lt-leb, le-leb, lt-ltb}
use Rattle.std.proofs.lemmas.Option.{slice_get-get_or}
use Rattle.build_base.specs.Best.{best, counted, over}
use Rattle.build_base.proofs.BestLemmas.{best-append, best_more, over-none, best-counts}
use Rattle.build_base.specs.Digest.{digest}
use Rattle.number_chains.specs.Chains.{IsNext}
use Rattle.number_chains.proofs.SkipLemmas.{skipped as passed_along}
use Rattle.doc_types.specs.LibraryLines.{class_number}
use Rattle.doc_types.specs.declared.platform.LibraryLine.{LibraryLine}
use Rattle.line_ranks.specs.declared.user.Consumer.{Consumer}
use Rattle.line_ranks.specs.Lines.{rank, weight}
use Rattle.line_ranks.specs.Places.{same_key, picked_line, Lines, outweighs}

best-one : {X : Type 0} (w : X → ℕ) (x : X) → best w (x ∷ []) ≡ counted w x
unfolding best
best-one w x = over-none w (counted w x)

-- with one item more
best_next : {X : Type 0} (w : X → ℕ) (xs : List X) (i : ℕ) (x : X) → i < length xs → x ≡ get_or xs i x → best w (take (i + 1) xs) ≡ over w (best w (take i xs)) (counted w x)
best_next w xs i x h e =
    ap (λ n. best w (take n xs)) (add-one i) ∙ ap (best w) (take-suc xs i x h) ∙ ap (λ y. best w (take i xs ++ y ∷ [])) (sym e)
    ∙ best-append w (take i xs) (x ∷ []) ∙ ap (over w (best w (take i xs))) (best-one w x)

counted-none : {X : Type 0} (w : X → ℕ) (x : X) → w x ≡ 0 → counted w x ≡ None
counted-none w x e = ap (λ n. cond (nat_lt 0 n) (Some x) None) e

skipped : {X : Type 0} (w : X → ℕ) (held : Option X) (x : X) → w x ≡ 0 → over w held (counted w x) ≡ held
skipped w held x e = ap (over w held) (counted-none w x e) ∙ over-none w held

less : {X : Type 0} (w : X → ℕ) (x y : X) → w y < w x → over w (Some x) (counted w y) ≡ Some x
less w x y h =
    elim (nat_lt 0 (w y)) as (λ b. over w (Some x) (cond b (Some y) None) ≡ Some x) [
      | true ↦ ap (λ b. cond b (Some y) (Some x)) (lt-leb (w x) (w y) h)
      | false ↦ refl
    ]

more : {X : Type 0} (w : X → ℕ) (x y : X) → w x ≤ w y → 0 < w y → over w (Some x) (counted w y) ≡ Some y
more w x y h p = ap (λ b. over w (Some x) (cond b (Some y) None)) (lt-ltb 0 (w y) p) ∙ ap (λ b. cond b (Some y) (Some x)) (le-leb (w x) (w y) h)

first : {X : Type 0} (w : X → ℕ) (y : X) → 0 < w y → over w None (counted w y) ≡ Some y
first w y p = ap (λ b. cond b (Some y) None) (lt-ltb 0 (w y) p)

zero-either : (b : Bool) (r : ℕ) → r ≡ 0 → cond b r 0 ≡ 0
zero-either true r e = e
zero-either false r e = refl

some-either : (b : Bool) (r : ℕ) → 0 < cond b r 0 → cond b r 0 ≡ r
some-either true r h = refl
some-either false r h = absurd (omega (arith, h))

-- a line that doesn't hold
pub lines_skipped : {S : Type 0} (user : Consumer) (own : Bool) (lines : List LibraryLine) (i : ℕ) (line : LibraryLine) (table : HashMap (List ℕ) ℕ S)
    → i < length lines → line ≡ get_or lines i line → rank user own line ≡ 0 → Lines user own lines (take i lines) table → Lines user own lines (take (i + 1) lines) table
lines_skipped user own lines i line table h e zero held = λ key.
    let w = weight user own key in
    held key ∙ sym (best_next (weight user own key) lines i line h e ∙ skipped (weight user own key) (best (weight user own key) (take i lines)) line (zero-either (pointwise nat_eq line.class key) (rank user own line) zero))

-- of the class of the line, what is held weighs its rank
beaten : (user : Consumer) (own : Bool) (class : List ℕ) (line : LibraryLine) (held : Option LibraryLine) (b : Bool)
    → pointwise nat_eq line.class class ≡ b → ((x : LibraryLine) → held ≡ Some x → 0 < weight user own class x) → outweighs user own (rank user own line) held ≡ true → over (weight user own class) held (counted (weight user own class) line) ≡ held
beaten user own class line held false e counts o = skipped (weight user own class) held line (ap (λ v. cond v (rank user own line) 0) e)
beaten user own class line None true e counts o = absurd (cc)
beaten user own class line (Some x) true e counts o =
    let wx : weight user own class x ≡ rank user own x = some-either (pointwise nat_eq x.class class) (rank user own x) (counts x refl) in
    let wl : weight user own class line ≡ rank user own line = ap (λ v. cond v (rank user own line) 0) e in
    less (weight user own class) x line (omega (arith, wx, wl, ltb-true (rank user own line) (rank user own x) o))

taken : (user : Consumer) (own : Bool) (class : List ℕ) (line : LibraryLine) (held : Option LibraryLine)
    → pointwise nat_eq line.class class ≡ true → 0 < rank user own line → ((x : LibraryLine) → held ≡ Some x → 0 < weight user own class x) → outweighs user own (rank user own line) held ≡ false → over (weight user own class) held (counted (weight user own class) line) ≡ Some line
taken user own class line None e p counts o =
    let wl : weight user own class line ≡ rank user own line = ap (λ v. cond v (rank user own line) 0) e in
    first (weight user own class) line (omega (arith, wl, p))
taken user own class line (Some x) e p counts o =
    let wx : weight user own class x ≡ rank user own x = some-either (pointwise nat_eq x.class class) (rank user own x) (counts x refl) in
    let wl : weight user own class line ≡ rank user own line = ap (λ v. cond v (rank user own line) 0) e in
    more (weight user own class) x line (omega (arith, wx, wl, ltb-false (rank user own line) (rank user own x) o)) (omega (arith, wl, p))

-- what is held under equal keys
held_same : {S X : Type 0} (xs : List X) (table : HashMap (List ℕ) ℕ S) (k q : List ℕ) → k ≡ q → picked_line xs (get same_key table k) ≡ picked_line xs (get same_key table q)
held_same xs table k q e = ap (λ (t : List ℕ). picked_line xs (get {K = List ℕ} (λ a b. pointwise nat_eq t b) table k)) e

-- a line that one above goes before
pub lines_beaten : {S : Type 0} (user : Consumer) (own : Bool) (lines : List LibraryLine) (i : ℕ) (line : LibraryLine) (table : HashMap (List ℕ) ℕ S) (k : List ℕ)
    → i < length lines → line ≡ get_or lines i line → k ≡ line.class → outweighs user own (rank user own line) (picked_line lines (get same_key table k)) ≡ true → Lines user own lines (take i lines) table → Lines user own lines (take (i + 1) lines) table
lines_beaten user own lines i line table k h e is o held = λ key.
    held key ∙ sym (best_next (weight user own key) lines i line h e ∙ kept key (pointwise nat_eq line.class key) refl)
  where
    kept : (key : List ℕ) (b : Bool) → pointwise nat_eq line.class key ≡ b → over (weight user own key) (best (weight user own key) (take i lines)) (counted (weight user own key) line) ≡ best (weight user own key) (take i lines)
    kept key false f = skipped (weight user own key) (best (weight user own key) (take i lines)) line (ap (λ v. cond v (rank user own line) 0) f)
    kept key true f =
        let same : k ≡ key = is ∙ same_text line.class key (sym f) in
        let there : picked_line lines (get same_key table k) ≡ best (weight user own key) (take i lines) = held_same lines table k key same ∙ held key in
        beaten user own key line (best (weight user own key) (take i lines)) true f (best-counts (weight user own key) (take i lines)) (subst (λ p. outweighs user own (rank user own line) p ≡ true) there o)

-- a line that holds from now on
pub lines_added : {S : Type 0} (user : Consumer) (own : Bool) (lines : List LibraryLine) (i : ℕ) (line : LibraryLine) (table new : HashMap (List ℕ) ℕ S) (k : List ℕ)
    → i < length lines → line ≡ get_or lines i line → k ≡ line.class → 0 < rank user own line → outweighs user own (rank user own line) (picked_line lines (get same_key table k)) ≡ false
    → ((q : List ℕ) → get same_key new q ≡ cond (same_key k q) (Some i) (get same_key table q)) → Lines user own lines (take i lines) table → Lines user own lines (take (i + 1) lines) new
lines_added user own lines i line table new k h e is p o update held = λ key.
    ap (picked_line lines) (update key) ∙ ap (λ (t : List ℕ). picked_line lines (cond (pointwise nat_eq t key) (Some i) (get same_key table key))) is
    ∙ put key (pointwise nat_eq line.class key) refl ∙ sym (best_next (weight user own key) lines i line h e)
  where
    put : (key : List ℕ) (b : Bool) → pointwise nat_eq line.class key ≡ b → picked_line lines (cond b (Some i) (get same_key table key)) ≡ over (weight user own key) (best (weight user own key) (take i lines)) (counted (weight user own key) line)
    put key false f = held key ∙ sym (skipped (weight user own key) (best (weight user own key) (take i lines)) line (ap (λ v. cond v (rank user own line) 0) f))
    put key true f =
        let same : k ≡ key = is ∙ same_text line.class key (sym f) in
        let there : picked_line lines (get same_key table k) ≡ best (weight user own key) (take i lines) = held_same lines table k key same ∙ held key in
        slice_get-get_or lines i line h ∙ ap (λ (l : LibraryLine). Some l) (sym e)
        ∙ sym (taken user own key line (best (weight user own key) (take i lines)) f p (best-counts (weight user own key) (take i lines)) (subst (λ r. outweighs user own (rank user own line) r ≡ false) there o))

pub lines_none : {S : Type 0} (user : Consumer) (own : Bool) (lines : List LibraryLine) (table : HashMap (List ℕ) ℕ S) → table.entries ≡ [] → Lines user own lines [] table
unfolding best
lines_none user own lines table e = λ key. rw e refl

-- Lines of a class that are found along the places of its number.

other_class : (user : Consumer) (class : List ℕ) (x : LibraryLine) (b : Bool) → pointwise nat_eq x.class class ≡ b → (class_number x ≡ digest class → ⊥) → weight user false class x ≡ 0
other_class user class x true e differs = absurd (differs (ap digest (same_text x.class class (sym e))))
other_class user class x false e differs = ap {B = ℕ} (λ a. cond a (rank user false x) 0) e

best_adds : (w : LibraryLine → ℕ) (x : LibraryLine) (rest : List LibraryLine) → w x ≡ 0 → best w (x ∷ rest) ≡ best w rest
unfolding best
best_adds w x rest e = ap (λ c. over w c (best w rest)) (counted-none w x e)

-- up to the next line whose class has the number, none weighs anything
pub best_behind : (user : Consumer) (class : List ℕ) (xs : List LibraryLine) (start place : ℕ) → IsNext (map class_number xs) start (digest class) place
    → best (weight user false class) (drop start xs) ≡ best (weight user false class) (drop place xs)
best_behind user class xs start place h =
    passed_along (best (weight user false class)) class_number (digest class)
    (λ x rest differs. best_adds (weight user false class) x rest (other_class user class x (pointwise nat_eq x.class class) refl differs)) xs start place h

-- one line more is looked at, and then those behind it
pub best_step : (user : Consumer) (class : List ℕ) (xs : List LibraryLine) (place next : ℕ) (x : LibraryLine) (held : Option LibraryLine) → place < length xs → x ≡ get_or xs place x
    → IsNext (map class_number xs) (place + 1) (digest class) next
    → over (weight user false class) (over (weight user false class) held (counted (weight user false class) x)) (best (weight user false class) (drop next xs)) ≡ over (weight user false class) held (best (weight user false class) (drop place xs))
best_step user class xs place next x held h e n =
    let w = weight user false class in
    ap (over w (over w held (counted w x))) (sym (best_behind user class xs (place + 1) next n))
    ∙ ap (λ y. over w (over w held (counted w y)) (best w (drop (place + 1) xs))) e
    ∙ sym (best_more w xs place x held h)
