-- Walks over instances and walks over their places are the same.
use Rattle.std.proofs.Common.{◌≡◌, ◌∙◌, ◌<◌, ◌≤◌, ◌+◌, ◌||◌, not, nat_lt, ℕ, zero, suc, Bool, true, false, cond, nat_eq, List, [], ◌∷◌, ◌++◌, length, map, get_or, Some, None, refl, sym, ap, ap₂, subst, eq-eqb, eqb-true, arith}
use Rattle.std.specs.Prelude.{position}
use Rattle.std.specs.List.{All, flat_map, position_or_len}
use Rattle.std.proofs.lemmas.Bool.{ltb-false}
use Rattle.std.proofs.lemmas.List.{get_or-map, length-map, map-append}
use Rattle.std.proofs.lemmas.List.Elements.{All-cons}
use Rattle.std.proofs.lemmas.List.Sums.{prefix_len-le-length}
use Rattle.library_calls.specs.declared.caller.WithCalls.{WithCalls}
use Rattle.library_choice.specs.Choices.{leads, reach}
use Rattle.library_choice.specs.Closure.{next, same_path}
use Rattle.library_choice.specs.Found.{is_in, ends}
use Rattle.library_choice.specs.Lines.{Setting}
use Rattle.library_choice.specs.Reaching.{IsWhole, IsWithin, AreFound, place_in, next_at, nexts_in, leads_at, caller_places, reach_at}
use Rattle.library_choice.specs.Search.{AllIn, Closed}
use Rattle.library_choice.proofs.InsideLemmas.{allin-in, all-by, closed-in, ends-inside}
use Rattle.library_choice.proofs.PathLemmas.{path_same}

-- what a table finds, and the number of the found where it finds nothing
pub place_some : (found : List (List ℕ)) (path : List ℕ) (place : ℕ) → position (λ y. same_path y path) found ≡ Some place → place ≡ place_in found path
unfolding place_in
place_some found path place e = by (nat_lt (position_or_len (λ y. same_path y path) found) (length found)) e
  where
    by : (b : Bool) → cond b (Some (position_or_len (λ y. same_path y path) found)) None ≡ Some place → place ≡ position_or_len (λ y. same_path y path) found
    by true e = cc
    by false e = absurd cc

pub place_none : (found : List (List ℕ)) (path : List ℕ) → position (λ y. same_path y path) found ≡ None → length found ≡ place_in found path
unfolding place_in
place_none found path e = by (nat_lt (position_or_len (λ y. same_path y path) found) (length found)) refl e
  where
    by : (b : Bool) → nat_lt (position_or_len (λ y. same_path y path) found) (length found) ≡ b → cond b (Some (position_or_len (λ y. same_path y path) found)) None ≡ None → length found ≡ position_or_len (λ y. same_path y path) found
    by true t e = absurd cc
    by false t e = omega (arith, ltb-false (position_or_len (λ y. same_path y path) found) (length found) t, prefix_len-le-length (λ y. not (same_path y path)) found)

-- the item at a place
record Stands (found : List (List ℕ)) (x : List ℕ) (place : ℕ) : Type 0 where
  within : place < length found
  is : get_or found place [] ≡ x

stands-by : (y : List ℕ) (ys : List (List ℕ)) (x : List ℕ) (v : Bool) → same_path y x ≡ v → (is_in same_path ys x ≡ true → Stands ys x (place_in ys x)) → v || is_in same_path ys x ≡ true
    → Stands (y ∷ ys) x (cond (not v) (1 + place_in ys x) 0)
stands-by y ys x true e ih h = record { within = omega arith; is = path_same.same y x e }
stands-by y ys x false e ih h =
    let there = ih h in
    let one : 1 + place_in ys x ≡ suc (place_in ys x) = omega arith in
    record { within = omega (arith, there.within); is = ap (λ k. get_or (y ∷ ys) k []) one ∙ there.is }

-- one that is there stands at its place
stands-at : (found : List (List ℕ)) (x : List ℕ) → is_in same_path found x ≡ true → Stands found x (place_in found x)
unfolding place_in
stands-at [] x h = absurd cc
stands-at (y ∷ ys) x h = stands-by y ys x (same_path y x) refl (stands-at ys x) h

next-place : (s : Setting) (found : List (List ℕ)) (x : List ℕ) → is_in same_path found x ≡ true → next_at (nexts_in s found) (place_in found x) ≡ map (place_in found) (next s x)
next-place s found x h =
    let at = stands-at found x h in
    get_or-map (λ path. map (place_in found) (next s path)) found (place_in found x) [] [] at.within
    ∙ ap (λ path. map (place_in found) (next s path)) at.is

next-places : (s : Setting) (found xs : List (List ℕ)) → AllIn same_path found xs → flat_map (next_at (nexts_in s found)) (map (place_in found) xs) ≡ map (place_in found) (flat_map (next s) xs)
next-places s found [] h = refl
next-places s found (x ∷ xs) h =
    ap₂ (λ l m. l ++ m) (next-place s found x h.0) (next-places s found xs h.1)
    ∙ sym (map-append (place_in found) (next s x) (flat_map (next s) xs))

ends-in : (s : Setting) (found starts : List (List ℕ)) → Closed same_path (next s) found → AllIn same_path found starts → (n : ℕ) → AllIn same_path found (ends (next s) starts n)
ends-in s found starts k h n =
    all-by same_path path_same found (ends (next s) starts n)
    (λ x e. ends-inside same_path path_same (next s) found starts k (λ z g. allin-in same_path path_same found starts z h g) n x e)

end-places : (s : Setting) (found starts : List (List ℕ)) → Closed same_path (next s) found → AllIn same_path found starts → (n : ℕ)
    → ends (next_at (nexts_in s found)) (map (place_in found) starts) n ≡ map (place_in found) (ends (next s) starts n)
unfolding ends
end-places s found starts k h zero = refl
end-places s found starts k h (suc n) =
    ap (λ l. map (place_in found) starts ++ flat_map (next_at (nexts_in s found)) l) (end-places s found starts k h n)
    ∙ ap (λ l. map (place_in found) starts ++ l) (next-places s found (ends (next s) starts n) (ends-in s found starts k h n))
    ∙ sym (map-append (place_in found) starts (flat_map (next s) (ends (next s) starts n)))

both : (a b : Bool) → (a ≡ true → b ≡ true) → (b ≡ true → a ≡ true) → a ≡ b
both true true f g = refl
both false false f g = refl
both true false f g = sym (f refl)
both false true f g = g refl

same-place : (found : List (List ℕ)) (y x : List ℕ) → is_in same_path found y ≡ true → is_in same_path found x ≡ true → nat_eq (place_in found y) (place_in found x) ≡ same_path y x
same-place found y x h g =
    let a = stands-at found y h in
    let b = stands-at found x g in
    both (nat_eq (place_in found y) (place_in found x)) (same_path y x)
    (λ e.
    let same : y ≡ x = sym a.is ∙ ap (λ k. get_or found k []) (eqb-true (place_in found y) (place_in found x) e) ∙ b.is in
    subst (λ z. same_path y z ≡ true) same (path_same.itself y))
    (λ e. eq-eqb (place_in found y) (place_in found x) (ap (place_in found) (path_same.same y x e)))

in-places : (found xs : List (List ℕ)) (x : List ℕ) → AllIn same_path found xs → is_in same_path found x ≡ true → is_in nat_eq (map (place_in found) xs) (place_in found x) ≡ is_in same_path xs x
in-places found [] x h g = refl
in-places found (y ∷ ys) x h g = ap₂ (λ a b. a || b) (same-place found y x h.0 g) (in-places found ys x h.1 g)

nexts-found : (s : Setting) (found : List (List ℕ)) (y : List ℕ) → Closed same_path (next s) found → is_in same_path found y ≡ true → AllIn same_path found (next s y)
nexts-found s found y k h = all-by same_path path_same found (next s y) (λ z g. closed-in same_path path_same (next s) found y z k h g)

-- to what an instance leads, its place leads
leads-place : (s : Setting) (found : List (List ℕ)) (y x : List ℕ) → Closed same_path (next s) found → is_in same_path found y ≡ true → is_in same_path found x ≡ true
    → leads_at (nexts_in s found) (place_in found y) (place_in found x) ≡ leads s y x
unfolding leads leads_at
leads-place s found y x k h g =
    let starts = nexts-found s found y k h in
    ap (λ l. is_in nat_eq (ends (next_at (nexts_in s found)) l 1025) (place_in found x)) (next-place s found y h)
    ∙ ap (λ l. is_in nat_eq l (place_in found x)) (end-places s found (next s y) k starts 1025)
    ∙ in-places found (ends (next s) (next s y) 1025) x (ends-in s found (next s y) k starts 1025) g

row-place : (s : Setting) (found : List (List ℕ)) (y : List ℕ) → Closed same_path (next s) found → is_in same_path found y ≡ true → (cs : List WithCalls) → AreFound found cs
    → map (leads_at (nexts_in s found) (place_in found y)) (caller_places found cs) ≡ map (λ (x : WithCalls). leads s y x.inf) cs
row-place s found y k h [] there = refl
row-place s found y k h (c ∷ cs) there = ap₂ (λ v l. v ∷ l) (leads-place s found y c.inf k h there.0) (row-place s found y k h cs there.1)

rows-place : (s : Setting) (found : List (List ℕ)) (all : List WithCalls) → Closed same_path (next s) found → AreFound found all → (cs : List WithCalls) → AreFound found cs
    → reach_at (nexts_in s found) (caller_places found cs) (caller_places found all) ≡ map (λ (y : WithCalls). map (λ (x : WithCalls). leads s y.inf x.inf) all) cs
rows-place s found all k h [] there = refl
rows-place s found all k h (c ∷ cs) there = ap₂ (λ v l. v ∷ l) (row-place s found c.inf k there.0 all h) (rows-place s found all k h cs there.1)

-- the rows of the places are those of the instances
pub reach-place : (s : Setting) (found : List (List ℕ)) (cs : List WithCalls) → IsWhole s found → AreFound found cs → reach_at (nexts_in s found) (caller_places found cs) (caller_places found cs) ≡ reach s cs
unfolding reach
reach-place s found cs w h = rows-place s found cs w.closed h cs h

places-in : (found xs : List (List ℕ)) (b : List (List ℕ)) → AllIn same_path found b → AllIn same_path found xs → AllIn same_path b xs → AllIn nat_eq (map (place_in found) b) (map (place_in found) xs)
places-in found [] b f g h = tt
places-in found (x ∷ xs) b f g h = (in-places found b x f g.0 ∙ h.0, places-in found xs b f g.1 h.1)

-- all that is found is among the found
found-all : (found : List (List ℕ)) → AllIn same_path found found
found-all found = all-by same_path path_same found found (λ x e. e)

closed-places : (s : Setting) (found : List (List ℕ)) → Closed same_path (next s) found → Closed nat_eq (next_at (nexts_in s found)) (map (place_in found) found)
closed-places s found k =
    subst (λ l. AllIn nat_eq (map (place_in found) found) l) (sym (next-places s found found (found-all found)))
    (places-in found (flat_map (next s) found) found (found-all found) k k)

-- the place of an instance is within those of the found
pub places-within : (s : Setting) (found : List (List ℕ)) → IsWhole s found → (cs : List WithCalls) → AreFound found cs → All (IsWithin nat_eq (next_at (nexts_in s found))) (caller_places found cs)
places-within s found w [] h = λ k d l. absurd (omega arith)
places-within s found w (c ∷ cs) h =
    All-cons (IsWithin nat_eq (next_at (nexts_in s found))) (place_in found c.inf) (caller_places found cs)
    (record {
      found = map (place_in found) found;
      closed = closed-places s found w.closed;
      few = subst (λ n. n ≤ 1024) (sym (length-map found (place_in found))) w.few;
      there = in-places found found c.inf (found-all found) h.0 ∙ h.0;
    })
    (places-within s found w cs h.1)
