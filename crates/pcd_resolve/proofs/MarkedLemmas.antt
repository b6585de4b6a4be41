-- A table of the lines of marked places is one of all lines, as far as names that are kept show it.
use Rattle.std.proofs.Common.{◌≡◌, ◌∙◌, ◌≤◌, ◌<◌, ℕ, zero, suc, Bool, true, false, cond, List, [], ◌∷◌, ◌++◌, length, map, filter, get_or, slice_get, refl, sym, ap, arith}
use Rattle.std.specs.Borrow.{Bor}
use Rattle.std.specs.Cmp.Lexicographic.{same_text}
use Rattle.std.specs.Global.{Vec}
use Rattle.std.specs.HashMap.{HashMap}
use Rattle.std.specs.Str.{bytes_eq}
use Rattle.std.proofs.lemmas.List.Elements.{filter-append}
use Rattle.number_chains.specs.Marks.{AreMarked}
use Rattle.doc_types.specs.NamePlaces.{place_of}
use Rattle.doc_types.proofs.NamePlaceLemmas.{place_below}
use Rattle.pcd_resolve.specs.Groups.{GroupedAt}
use Rattle.pcd_resolve.specs.NameFilter.{mark_of}
use Rattle.pcd_resolve.proofs.NameFilterLemmas.{map_twice}

mark_there : (marks : List Bool) (place : ℕ) → place < length marks → mark_of (slice_get marks place) ≡ true → get_or marks place false ≡ true
mark_there [] place h e = absurd (omega (arith, h))
mark_there (mark ∷ marks) zero h e = e
mark_there (mark ∷ marks) (suc place) h e = mark_there marks place (omega (arith, h)) e

name_so : (x y : List ℕ) → bytes_eq x y ≡ true → place_of x ≡ place_of y
name_so x y e = ap place_of (same_text x y (sym e))

filter_map_by : {X Y : Type 0} (p : Y → Bool) (f : X → Y) (x : X) (xs : List X) (b : Bool) → p (f x) ≡ b
    → filter p (map f xs) ≡ map f (filter (λ z. p (f z)) xs)
    → filter p (map f (x ∷ xs)) ≡ map f (filter (λ z. p (f z)) (x ∷ xs))
filter_map_by p f x xs true e rest =
    ap (λ b. cond b (f x ∷ filter p (map f xs)) (filter p (map f xs))) e ∙ ap (λ l. f x ∷ l) rest
    ∙ sym (ap (λ b. map f (cond b (x ∷ filter (λ z. p (f z)) xs) (filter (λ z. p (f z)) xs))) e)
filter_map_by p f x xs false e rest =
    ap (λ b. cond b (f x ∷ filter p (map f xs)) (filter p (map f xs))) e ∙ rest
    ∙ sym (ap (λ b. map f (cond b (x ∷ filter (λ z. p (f z)) xs) (filter (λ z. p (f z)) xs))) e)

filter_of_map : {X Y : Type 0} (p : Y → Bool) (f : X → Y) (xs : List X) → filter p (map f xs) ≡ map f (filter (λ z. p (f z)) xs)
filter_of_map p f [] = refl
filter_of_map p f (x ∷ xs) = filter_map_by p f x xs (p (f x)) refl (filter_of_map p f xs)

pub all_grouped : {V X L S : Type 0} (marks : List Bool) (view : V → X) (name : X → List ℕ) (f : L → X) (xs : List X) (found : List (Bor L)) (lines : List L) (table : HashMap (Vec ℕ) (Vec V) S)
    → 2048 ≤ length marks
    → AreMarked (λ line. place_of (name (f line))) marks lines (map (λ (line : Bor L). line.now) found)
    → GroupedAt marks view name (xs ++ map (λ (line : Bor L). f line.now) found) table
    → GroupedAt marks view name (xs ++ map f lines) table
all_grouped marks view name f xs found lines table all marked h = λ q kept.
    let keep : _ → Bool = λ x. bytes_eq (name x) q.items in
    let below : place_of q.items < 2048 = place_below q.items in
    let on : get_or marks (place_of q.items) false ≡ true = mark_there marks (place_of q.items) (omega (arith, below, all)) kept in
    h q kept
    ∙ filter-append keep xs (map (λ (line : Bor _). f line.now) found)
    ∙ ap (λ l. filter keep xs ++ filter keep l) (sym (map_twice f (λ (line : Bor _). line.now) found))
    ∙ ap (λ l. filter keep xs ++ l) (filter_of_map keep f (map (λ (line : Bor _). line.now) found)
    ∙ ap (map f) (marked (place_of q.items) (λ line. keep (f line)) on (λ line e. name_so (name (f line)) q.items e))
    ∙ sym (filter_of_map keep f lines))
    ∙ sym (filter-append keep xs (map f lines))
