-- Each SKU of a platform that is read ends at DEFAULT.
use Rattle.std.proofs.Common.{◌≡◌, ◌∙◌, ◌≤◌, ◌<◌, ◌+◌, ◌||◌, ◌++◌, ℕ, zero, suc, Bool, true, false, if◌then◌else◌, List, [], ◌∷◌, length, get_or, slice_get, map, Option, Some, None, codes, refl, sym, ap, subst, arith}
use Rattle.std.specs.List.{All, list_any}
use Rattle.std.specs.Option.{option_map, option_and_then}
use Rattle.std.specs.Str.{bytes_eq}
use Rattle.std.proofs.lemmas.List.{length-append, length-map}
use Rattle.std.proofs.lemmas.List.Elements.{All-nil, All-cons, All-append, All-map}
use Rattle.std.proofs.lemmas.Slice.Eq.{bytes_eq-Decides}
use Rattle.std.proofs.lemmas.Option.{slice_get_within, slice_get-map, slice_get-get_or, get_or_from_slice_get}
use Rattle.build_base.specs.FaultText.{fault_of}
use Rattle.build_base.specs.First.{or_else}
use Rattle.build_base.specs.declared.fault.Fault.{Fault}
use Rattle.doc_types.specs.declared.platform.Sku.{Sku}
use Rattle.doc_types.specs.SkuWalks.{stated_parent, parent, after, EndsAtDefault}
use Rattle.dsc_lines.specs.declared.rows.SkuLine.{SkuLine}
use Rattle.dsc_platform.specs.Platform.{default_sku, front_of, skus_of}
use Rattle.dsc_lines.specs.PcdLines.{is_there}
use Rattle.dsc_lines.specs.SkuLines.{is_default, place_of}
use Rattle.dsc_platform.specs.SkuUses.{is_known}
use Rattle.dsc_platform.specs.SkuWalks.{parent_place, parents_of, joined, next_of, comes_by, is_loop, loop_fault, loops_from, loops_fault}
use Rattle.dsc_platform.specs.Stating.{names_of}
use Rattle.dsc_lines.proofs.PlaceLemmas.{bytes_same}
use Rattle.dsc_platform.specs.FarPlaces.{walked}
use Rattle.dsc_platform.proofs.PlaceWalks.{none_some, walked_none, walk_ends}
use Rattle.dsc_platform.proofs.WalkLemmas.{comes_none}
use Rattle.build_base.specs.FaultCodes.{SKU_LOOP}

abbrev sku_in_line : SkuLine → Sku
sku_in_line line = line.sku

-- the line of a name
record LineOf (skus : List SkuLine) (name : List ℕ) (place : ℕ) : Type 0 where
  line : SkuLine
  at : slice_get skus place ≡ Some line
  named : line.sku.name ≡ name
  up : stated_parent (map sku_in_line skus) name ≡ Some line.sku.parent

line_of : (skus : List SkuLine) (name : List ℕ) (place : ℕ) → place_of name (names_of skus) ≡ Some place → LineOf skus name place
unfolding place_of
line_of [] name place e = absurd cc
line_of (line ∷ skus) name place e = first_or_behind (bytes_eq line.sku.name name) (place_of name (names_of skus)) refl e (λ k f. line_of skus name k f)
  where
    first_or_behind : (t : Bool) (o : Option ℕ) → bytes_eq line.sku.name name ≡ t → (if t then Some 0 else option_map suc o) ≡ Some place
        → ((k : ℕ) → o ≡ Some k → LineOf skus name k) → LineOf (line ∷ skus) name place
    first_or_behind true o t h rest =
        let same : 0 ≡ place = cc in
        record {
          line = line;
          at = ap (slice_get (line ∷ skus)) (sym same);
          named = bytes_same line.sku.name name t;
          up = ap (λ b. if b then Some line.sku.parent else stated_parent (map sku_in_line skus) name) t;
        }
    first_or_behind false None t h rest = absurd cc
    first_or_behind false (Some k) t h rest =
        let found = rest k refl in
        let same : suc k ≡ place = cc in
        record {
          line = found.line;
          at = ap (slice_get (line ∷ skus)) (sym same) ∙ found.at;
          named = found.named;
          up = ap (λ b. if b then Some line.sku.parent else stated_parent (map sku_in_line skus) name) t ∙ found.up;
        }

-- the first of two faults, where there is none
pub none_of : {F : Type 0} (first second : Option F) → or_else first second ≡ None → (first ≡ None) × (second ≡ None)
none_of None second e = (refl, e)
none_of (Some fault) second e = absurd cc

unlooped : (t : Bool) (fault : Fault) → (if t then Some fault else None) ≡ None → t ≡ false
unlooped true fault e = absurd cc
unlooped false fault e = refl

-- no SKU that was checked meets itself
checked : (parents : List (Option ℕ)) (skus : List SkuLine) (from k : ℕ) (line : SkuLine) → loops_from parents from skus ≡ None → slice_get skus k ≡ Some line → is_loop parents (from + k) ≡ false
checked parents [] from k line e h = absurd cc
checked parents (first ∷ skus) from zero line e h =
    let both = none_of (loop_fault parents from first) (loops_from parents (from + 1) skus) e in
    let same : from + 0 ≡ from = omega arith in
    ap (is_loop parents) same ∙ unlooped (is_loop parents from) (fault_of SKU_LOOP first.at first.sku.name) both.0
checked parents (first ∷ skus) from (suc k) line e h =
    let both = none_of (loop_fault parents from first) (loops_from parents (from + 1) skus) e in
    let same : from + suc k ≡ (from + 1) + k = omega arith in
    ap (is_loop parents) same ∙ checked parents skus (from + 1) k line both.1 h

pub true_false : true ≡ false → ⊥
true_false h = cc

-- where the parent of a place stands
next_at : (skus : List SkuLine) (place : ℕ) (line : SkuLine) → slice_get skus place ≡ Some line → next_of (parents_of skus) place ≡ parent_place (names_of skus) line
next_at skus place line h = ap joined (slice_get-map (parent_place (names_of skus)) skus place ∙ ap (option_map (parent_place (names_of skus))) h)

next_past : (skus : List SkuLine) (place : ℕ) → slice_get skus place ≡ None → next_of (parents_of skus) place ≡ None
next_past skus place h = ap joined (slice_get-map (parent_place (names_of skus)) skus place ∙ ap (option_map (parent_place (names_of skus))) h)

sound : (skus : List SkuLine) → loops_fault skus ≡ None → (place : ℕ) → is_loop (parents_of skus) place ≡ false
unfolding loops_fault
sound skus e place = at (slice_get skus place) refl
  where
    at : (o : Option SkuLine) → slice_get skus place ≡ o → is_loop (parents_of skus) place ≡ false
    at (Some line) h = let same : 0 + place ≡ place = omega arith in ap (is_loop (parents_of skus)) (sym same) ∙ checked (parents_of skus) skus 0 place line e h
    at None h = ap (comes_by (parents_of skus) place (length (parents_of skus))) (next_past skus place h) ∙ comes_none (parents_of skus) place (length (parents_of skus))

count_is : (skus : List SkuLine) → length (parents_of skus) ≡ length skus
count_is skus = length-map skus (parent_place (names_of skus))

place_below : (skus : List SkuLine) (name : List ℕ) (place : ℕ) → place_of name (names_of skus) ≡ Some place → place < length (parents_of skus)
place_below skus name place e =
    let found = line_of skus name place e in
    let low = slice_get_within skus place found.line found.at in
    omega (arith, low, count_is skus)

-- a parent's place is one of those that there are
next_below : (skus : List SkuLine) (place next : ℕ) → next_of (parents_of skus) place ≡ Some next → next < length (parents_of skus)
next_below skus place next e = at (slice_get skus place) refl
  where
    named : (line : SkuLine) (t : Bool) → (if t then None else place_of line.sku.parent (names_of skus)) ≡ Some next → next < length (parents_of skus)
    named line true f = absurd cc
    named line false f = place_below skus line.sku.parent next f

    at : (o : Option SkuLine) → slice_get skus place ≡ o → next < length (parents_of skus)
    at (Some line) h = named line (is_default line.sku.name) (sym (next_at skus place line h) ∙ e)
    at None h = absurd (none_some next (sym (next_past skus place h) ∙ e))

-- each SKU's parent is one that there is
abbrev pub ParentsKnown : List SkuLine → Type 0
ParentsKnown skus = All (λ line. is_default line.sku.name ≡ false → is_known (names_of skus) line.sku.parent ≡ true) skus

all_at : {X : Type 0} (P : X → Type 0) (xs : List X) (i : ℕ) (x : X) → All P xs → slice_get xs i ≡ Some x → P x
all_at P xs i x h e = subst P (get_or_from_slice_get xs i x x e) (h i x (slice_get_within xs i x e))

unnamed : (name : List ℕ) → is_default name ≡ false → bytes_eq (codes "DEFAULT") name ≡ false
unfolding is_default
unnamed name e = at (bytes_eq (codes "DEFAULT") name) refl
  where
    at : (t : Bool) → bytes_eq (codes "DEFAULT") name ≡ t → bytes_eq (codes "DEFAULT") name ≡ false
    at false h = h
    at true h = absurd (true_false (ap (λ n. bytes_eq n (codes "DEFAULT")) (bytes_same (codes "DEFAULT") name h) ∙ e))

-- the parent among all SKUs of a document
parent_is : (skus : List SkuLine) (name : List ℕ) (up : List ℕ) → is_default name ≡ false → stated_parent (map sku_in_line skus) name ≡ Some up → parent (skus_of skus) name ≡ Some up
unfolding parent is_default
parent_is skus name up d e =
    ap (λ t. if t then None else stated_parent (skus_of skus) name) d ∙ front (list_any (λ line. is_default line.sku.name) skus)
  where
    front : (t : Bool) → stated_parent ((if t then [] else default_sku ∷ []) ++ map sku_in_line skus) name ≡ Some up
    front true = e
    front false = ap (λ t. if t then Some [] else stated_parent (map sku_in_line skus) name) (unnamed name d) ∙ e

record ReachesDefault (skus : List SkuLine) (name : List ℕ) (most : ℕ) : Type 0 where
  steps : ℕ
  few : steps ≤ most
  there : after (skus_of skus) name steps ≡ Some (codes "DEFAULT")

at_default : (skus : List SkuLine) (name : List ℕ) (most : ℕ) → is_default name ≡ true → ReachesDefault skus name most
unfolding is_default after
at_default skus name most e = record { steps = 0; few = omega arith; there = ap (λ n. Some n) (bytes_same name (codes "DEFAULT") e) }

step_up : (skus : List SkuLine) (name up : List ℕ) (most : ℕ) → parent (skus_of skus) name ≡ Some up → ReachesDefault skus up most → ReachesDefault skus name (suc most)
unfolding after
step_up skus name up most p c =
    let few = c.few in
    record {
      steps = suc c.steps;
      few = omega (arith, few);
      there = ap (option_and_then (λ next. after (skus_of skus) next c.steps)) p ∙ c.there;
    }

by_default : (skus : List SkuLine) (name : List ℕ) (most : ℕ) (t : Bool) → is_default name ≡ t → (is_default name ≡ false → ReachesDefault skus name most) → ReachesDefault skus name most
by_default skus name most true d rest = at_default skus name most d
by_default skus name most false d rest = rest d

by_place : (skus : List SkuLine) (name : List ℕ) (most : ℕ) (o : Option ℕ) → place_of name (names_of skus) ≡ o → is_known (names_of skus) name ≡ true → is_default name ≡ false
    → ((place : ℕ) → place_of name (names_of skus) ≡ Some place → ReachesDefault skus name most) → ReachesDefault skus name most
by_place skus name most (Some place) p k d rest = rest place p
by_place skus name most None p k d rest =
    absurd (true_false (sym k ∙ ap (λ t. t || is_there (place_of name (names_of skus))) d ∙ ap is_there p))

-- a SKU whose walk by places ends so soon comes to DEFAULT as soon
comes : (skus : List SkuLine) → ParentsKnown skus → (most : ℕ) (name : List ℕ) → is_known (names_of skus) name ≡ true
    → walked (parents_of skus) most (place_of name (names_of skus)) ≡ None → ReachesDefault skus name most
comes skus known zero name k w =
    by_default skus name zero (is_default name) refl (λ d. by_place skus name zero (place_of name (names_of skus)) refl k d (λ place p. absurd (none_some place (sym w ∙ p))))
comes skus known (suc most) name k w =
    by_default skus name (suc most) (is_default name) refl (λ d.
    by_place skus name (suc most) (place_of name (names_of skus)) refl k d (λ place p.
    let found = line_of skus name place p in
    let own : is_default found.line.sku.name ≡ false = ap is_default found.named ∙ d in
    let next : next_of (parents_of skus) place ≡ place_of found.line.sku.parent (names_of skus) =
    next_at skus place found.line found.at ∙ ap (λ t. if t then None else place_of found.line.sku.parent (names_of skus)) own in
    let up : is_known (names_of skus) found.line.sku.parent ≡ true =
    all_at (λ line. is_default line.sku.name ≡ false → is_known (names_of skus) line.sku.parent ≡ true) skus place found.line known found.at own in
    step_up skus name found.line.sku.parent most
    (parent_is skus name found.line.sku.parent d found.up)
    (comes skus known most found.line.sku.parent up
    (ap (walked (parents_of skus) most) (sym next) ∙ sym (ap (walked (parents_of skus) (suc most)) p) ∙ w))))

-- the name of a SKU's line is there
name_there : (skus : List SkuLine) (place : ℕ) (line : SkuLine) → slice_get skus place ≡ Some line → is_there (place_of line.sku.name (names_of skus)) ≡ true
unfolding place_of
name_there [] place line e = absurd cc
name_there (first ∷ skus) zero line e =
    let same : first ≡ line = cc in
    ap (λ l. is_there (if bytes_eq first.sku.name l.sku.name then Some 0 else option_map suc (place_of l.sku.name (names_of skus)))) (sym same)
    ∙ ap (λ t. is_there (if t then Some 0 else option_map suc (place_of first.sku.name (names_of skus)))) ((bytes_eq-Decides first.sku.name first.sku.name).1 refl)
name_there (first ∷ skus) (suc place) line e = there (bytes_eq first.sku.name line.sku.name) (place_of line.sku.name (names_of skus)) (name_there skus place line e)
  where
    there : (t : Bool) (o : Option ℕ) → is_there o ≡ true → is_there (if t then Some 0 else option_map suc o) ≡ true
    there true o h = refl
    there false (Some k) h = refl
    there false None h = absurd cc

or_true : (t b : Bool) → b ≡ true → (t || b) ≡ true
or_true true b e = refl
or_true false b e = e

whole_count : (skus : List SkuLine) → length skus ≤ length (skus_of skus)
whole_count skus =
    let both = length-append (front_of skus) (map sku_in_line skus) in
    let own = length-map skus sku_in_line in
    omega (arith, both, own)

ends : (skus : List SkuLine) (name : List ℕ) → ReachesDefault skus name (length skus) → EndsAtDefault (skus_of skus) name
ends skus name c = let few = c.few in let all = whole_count skus in record { steps = c.steps; few = omega (arith, few, all); there = c.there }

-- the walk of each SKU that is named
named_ends : (skus : List SkuLine) → ParentsKnown skus → loops_fault skus ≡ None → (name : List ℕ) → is_known (names_of skus) name ≡ true → EndsAtDefault (skus_of skus) name
named_ends skus known loops name k = ends skus name (comes skus known (length skus) name k (walk (place_of name (names_of skus)) refl))
  where
    walk : (o : Option ℕ) → place_of name (names_of skus) ≡ o → walked (parents_of skus) (length skus) (place_of name (names_of skus)) ≡ None
    walk None p = ap (walked (parents_of skus) (length skus)) p ∙ walked_none (parents_of skus) (length skus)
    walk (Some place) p =
        ap (walked (parents_of skus) (length skus)) p
        ∙ ap (λ n. walked (parents_of skus) n (Some place)) (sym (count_is skus))
        ∙ walk_ends (parents_of skus) (sound skus loops) (next_below skus) place (place_below skus name place p)

default_named : is_default (codes "DEFAULT") ≡ true
unfolding is_default
default_named = refl

-- the walks of all SKUs of a document
pub all_end : (skus : List SkuLine) → ParentsKnown skus → loops_fault skus ≡ None → All (λ sku. EndsAtDefault (skus_of skus) sku.name) (skus_of skus)
all_end skus known loops =
    All-append (λ sku. EndsAtDefault (skus_of skus) sku.name) (front_of skus) (map sku_in_line skus)
    (front (list_any (λ line. is_default line.sku.name) skus))
    (All-map (λ sku. EndsAtDefault (skus_of skus) sku.name) sku_in_line skus
    (λ place line h. own place (get_or skus place line) (slice_get-get_or skus place line h)))
  where
    front : (t : Bool) → All (λ sku. EndsAtDefault (skus_of skus) sku.name) (if t then [] else default_sku ∷ [])
    front true = All-nil (λ sku. EndsAtDefault (skus_of skus) sku.name)
    front false =
        All-cons (λ sku. EndsAtDefault (skus_of skus) sku.name) default_sku [] (ends skus (codes "DEFAULT") (at_default skus (codes "DEFAULT") (length skus) default_named))
        (All-nil (λ sku. EndsAtDefault (skus_of skus) sku.name))

    own : (place : ℕ) (line : SkuLine) → slice_get skus place ≡ Some line → EndsAtDefault (skus_of skus) line.sku.name
    own place line h = named_ends skus known loops line.sku.name (or_true (is_default line.sku.name) (is_there (place_of line.sku.name (names_of skus))) (name_there skus place line h))
