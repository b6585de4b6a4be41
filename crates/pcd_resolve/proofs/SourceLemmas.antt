-- The SKUs whose values others take, found place by place.
use Rattle.std.proofs.Common.{◌≡◌, ◌∙◌, ◌≤◌, ◌+◌, ◌++◌, ℕ, zero, suc, Bool, true, false, cond, List, [], ◌∷◌, length, map, set, slice_get, Option, Some, None, option_map, ◌⊎◌, inl, inr, ⊎_elim, refl, sym, ap, arith, add-one}
use Rattle.std.specs.Prelude.{filter, is_some, IfSome}
use Rattle.std.specs.Option.{option_and_then}
use Rattle.std.specs.List.{flat_map}
use Rattle.std.specs.Global.{Vec}
use Rattle.std.specs.HashMap.{HashMap, get}
use Rattle.std.specs.Str.{bytes_eq}
use Rattle.std.specs.Cmp.Lexicographic.{same_text, other_text}
use Rattle.std.proofs.lemmas.Option.{slice_get-map}
use Rattle.build_base.specs.First.{or_else}
use Rattle.doc_types.specs.declared.package.DecPcd.{DecPcd}
use Rattle.doc_types.specs.declared.pcd.PcdSet.{PcdSet}
use Rattle.doc_types.specs.declared.platform.Sku.{Sku}
use Rattle.doc_types.specs.declared.values.SkuRow.{SkuRow}
use Rattle.doc_types.specs.SkuWalks.{parent}
use Rattle.pcd_values.specs.Skus.{own_value, value_within}
use Rattle.pcd_ranks.specs.Assignments.{Assignment, by_line, by_set, value_from}
use Rattle.pcd_ranks.specs.Listing.{Stated}
use Rattle.pcd_resolve.specs.Groups.{group, Grouped}
use Rattle.pcd_resolve.specs.Platform.{default_for, named_if, sku_assignments, own_value_rows}
use Rattle.pcd_resolve.specs.SkuTables.{same_name, sku_at, name_or, name_at, within, held, at_place, stated_sku, AreKnown, AreTables}
use Rattle.pcd_resolve.specs.declared.sku_tables.SkuTables.{SkuTables}
use Rattle.pcd_resolve.proofs.SkuLemmas.{placed}

-- the lines of a SKU alone give what all lines do
filter_again : {X : Type 0} (p : X → Bool) (xs : List X) → filter p (filter p xs) ≡ filter p xs
filter_again p [] = refl
filter_again p (x ∷ xs) = at (p x) refl (filter_again p xs)
  where
    at : (b : Bool) → p x ≡ b → filter p (filter p xs) ≡ filter p xs → filter p (cond b (x ∷ filter p xs) (filter p xs)) ≡ cond b (x ∷ filter p xs) (filter p xs)
    at true e h = ap (λ b. cond b (x ∷ filter p (filter p xs)) (filter p (filter p xs))) e ∙ ap (λ ys. x ∷ ys) h
    at false e h = h

pub assignments_same : {V S : Type 0} (view : V → Stated) (line : DecPcd) (lines : List Stated) (sets : List PcdSet) (table : HashMap (Vec ℕ) (Vec V) S) (key : Vec ℕ) (sku : List ℕ)
    → key.items ≡ sku → Grouped view stated_sku lines table
    → sku_assignments line (map view (group table key)) sets sku ≡ sku_assignments line lines sets sku
unfolding sku_assignments
assignments_same view line lines sets table key sku e grouped =
    let p : Stated → Bool = λ stated. bytes_eq stated.line.sku sku in
    let own : map view (group table key) ≡ filter p lines = grouped key ∙ ap (λ n. filter (λ (stated : Stated). bytes_eq stated.line.sku n) lines) e in
    ap (λ ls. default_for line sku ++ map (by_line line.datum) ls ++ map by_set sets) (ap (filter p) own ∙ filter_again p lines)

-- the values that SKUs have of their own
abbrev rows_by : (List ℕ → Option Assignment) → List Sku → List SkuRow
rows_by V skus = flat_map (λ sku. named_if sku.name (V sku.name)) skus

own_none : (V : List ℕ → Option Assignment) (skus : List Sku) (name : List ℕ) → V name ≡ None → own_value (rows_by V skus) name ≡ None
own_none V [] name e = refl
own_none V (sku ∷ skus) name e = at (V sku.name) refl (own_none V skus name e)
  where
    by : (x : Assignment) (b : Bool) → V sku.name ≡ Some x → bytes_eq sku.name name ≡ b → own_value (rows_by V skus) name ≡ None → cond b (Some sku.name) (own_value (rows_by V skus) name) ≡ None
    by x true t s rest =
        let same : sku.name ≡ name = same_text sku.name name (sym s) in
        let none : V sku.name ≡ None = ap V same ∙ e in
        absurd (cc)
    by x false t s rest = rest

    at : (o : Option Assignment) → V sku.name ≡ o → own_value (rows_by V skus) name ≡ None → own_value (named_if sku.name o ++ rows_by V skus) name ≡ None
    at None t rest = rest
    at (Some x) t rest = by x (bytes_eq sku.name name) t refl rest

own_some : (V : List ℕ → Option Assignment) (skus : List Sku) (place : ℕ) (name : List ℕ) (x : Assignment) (at : Sku) → V name ≡ Some x → slice_get skus place ≡ Some at → at.name ≡ name
    → own_value (rows_by V skus) name ≡ Some name
own_some V [] place name x at v s n = absurd cc
own_some V (sku ∷ skus) place name x at v s n = first (bytes_eq sku.name name) refl place s (λ k h. own_some V skus k name x at v h n)
  where
    other : (o : Option Assignment) → bytes_eq sku.name name ≡ false → own_value (rows_by V skus) name ≡ Some name → own_value (named_if sku.name o ++ rows_by V skus) name ≡ Some name
    other None f rest = rest
    other (Some y) f rest = ap (λ b. cond b (Some sku.name) (own_value (rows_by V skus) name)) f ∙ rest

    first : (b : Bool) → bytes_eq sku.name name ≡ b → (place : ℕ) → slice_get (sku ∷ skus) place ≡ Some at → ((k : ℕ) → slice_get skus k ≡ Some at → own_value (rows_by V skus) name ≡ Some name)
        → own_value (named_if sku.name (V sku.name) ++ rows_by V skus) name ≡ Some name
    first true t place s rest =
        let same : sku.name ≡ name = same_text sku.name name (sym t) in
        ap (λ o. own_value (named_if sku.name o ++ rows_by V skus) name) (ap V same ∙ v)
        ∙ ap (λ b. cond b (Some sku.name) (own_value (rows_by V skus) name)) t ∙ ap (λ (m : List ℕ). Some m) same
    first false t zero s rest =
        let is : sku ≡ at = cc in
        absurd (other_text sku.name name (sym t) (ap (λ (y : Sku). y.name) is ∙ n))
    first false t (suc k) s rest = other (V sku.name) t (rest k s)

-- what is found stays found in more steps
pub within_far : (rows : List SkuRow) (skus : List Sku) (name value : List ℕ) (n m : ℕ) → n ≤ m → value_within rows skus name n ≡ Some value → value_within rows skus name m ≡ Some value
unfolding value_within
within_far rows skus name value zero m h e = absurd cc
within_far rows skus name value (suc n) zero h e = absurd (omega (arith, h))
within_far rows skus name value (suc n) (suc m) h e =
    let less : n ≤ m = omega (arith, h) in
    at (own_value rows name) (parent skus name) (λ next f. within_far rows skus next value n m less f) e
  where
    at : (o next : Option (List ℕ)) → ((x : List ℕ) → value_within rows skus x n ≡ Some value → value_within rows skus x m ≡ Some value)
        → or_else o (option_and_then (λ x. value_within rows skus x n) next) ≡ Some value → or_else o (option_and_then (λ x. value_within rows skus x m) next) ≡ Some value
    at (Some v) next rest f = f
    at None None rest f = absurd cc
    at None (Some x) rest f = rest x f

within_own : (rows : List SkuRow) (skus : List Sku) (name value : List ℕ) (n : ℕ) → own_value rows name ≡ Some value → value_within rows skus name (n + 1) ≡ Some value
unfolding value_within
within_own rows skus name value n e =
    ap (value_within rows skus name) (add-one n) ∙ ap (λ o. or_else o (option_and_then (λ x. value_within rows skus x n) (parent skus name))) e

within_up : (rows : List SkuRow) (skus : List Sku) (name next value : List ℕ) (n : ℕ) → own_value rows name ≡ None → parent skus name ≡ Some next → value_within rows skus next n ≡ Some value
    → value_within rows skus name (n + 1) ≡ Some value
unfolding value_within
within_up rows skus name next value n e p h =
    ap (value_within rows skus name) (add-one n) ∙ ap (λ o. or_else o (option_and_then (λ x. value_within rows skus x n) (parent skus name))) e
    ∙ ap (option_and_then (λ x. value_within rows skus x n)) p ∙ h

-- a SKU with a value of its own
pub source_own : (line : DecPcd) (lines : List Stated) (sets : List PcdSet) (skus : List Sku) (place from n : ℕ) (sku : Sku) → slice_get skus place ≡ Some sku
    → is_some (value_from (sku_assignments line lines sets sku.name)) ≡ true → ◌≡◌ {A = Option ℕ} (Some place) (Some from)
    → value_within (own_value_rows line lines sets skus) skus (name_at skus place) (n + 1) ≡ Some (name_at skus from)
unfolding own_value_rows
source_own line lines sets skus place from n sku s h e =
    let same : place ≡ from = cc in
    let named : name_at skus place ≡ sku.name = ap name_or s in
    let V : List ℕ → Option Assignment = λ name. value_from (sku_assignments line lines sets name) in
    ap (λ m. value_within (rows_by V skus) skus m (n + 1)) named
    ∙ there V (V sku.name) refl h ∙ ap (λ (m : List ℕ). Some m) (sym named ∙ ap (name_at skus) same)
  where
    there : (V : List ℕ → Option Assignment) (o : Option Assignment) → V sku.name ≡ o → is_some o ≡ true → value_within (rows_by V skus) skus sku.name (n + 1) ≡ Some sku.name
    there V None t f = absurd cc
    there V (Some x) t f = within_own (rows_by V skus) skus sku.name sku.name n (own_some V skus place sku.name x sku t s refl)

-- one without
pub source_up : (line : DecPcd) (lines : List Stated) (sets : List PcdSet) (skus : List Sku) (tables : SkuTables) (known ups : List (Option ℕ)) (place from n : ℕ) (sku : Sku)
    → slice_get skus place ≡ Some sku → AreTables skus tables → ups ≡ tables.ups.items
    → is_some (value_from (sku_assignments line lines sets sku.name)) ≡ false
    → AreKnown (own_value_rows line lines sets skus) skus n known → option_and_then (at_place known) (at_place ups place) ≡ Some from
    → value_within (own_value_rows line lines sets skus) skus (name_at skus place) (n + 1) ≡ Some (name_at skus from)
unfolding own_value_rows
source_up line lines sets skus tables known ups place from n sku s are u h k e =
    let named : name_at skus place ≡ sku.name = ap name_or s in
    let V : List ℕ → Option Assignment = λ name. value_from (sku_assignments line lines sets name) in
    up V k (own_none V skus (name_at skus place) (none (V (name_at skus place)) (ap (λ m. is_some (V m)) named ∙ h))) (at_place ups place) refl e
  where
    none : (o : Option Assignment) → is_some o ≡ false → o ≡ None
    none None f = refl
    none (Some x) f = absurd cc

    up : (V : List ℕ → Option Assignment) → AreKnown (rows_by V skus) skus n known → own_value (rows_by V skus) (name_at skus place) ≡ None → (o : Option ℕ) → at_place ups place ≡ o
        → option_and_then (at_place known) o ≡ Some from → value_within (rows_by V skus) skus (name_at skus place) (n + 1) ≡ Some (name_at skus from)
    up V k own None t f = absurd cc
    up V k own (Some next) t f =
        within_up (rows_by V skus) skus (name_at skus place) (name_at skus next) (name_at skus from) n own
        (are.ups place next (ap (λ us. at_place us place) (sym u) ∙ t)) (k next from f)

-- what one place more adds
held_set : (xs : List (Option ℕ)) (i k : ℕ) (y : Option ℕ) (from : ℕ) → at_place (set xs i y) k ≡ Some from → ((k ≡ i) × (y ≡ Some from)) ⊎ (at_place xs k ≡ Some from)
held_set [] i k y from e = inr e
held_set (x ∷ xs) zero zero y from e = inl (refl, e)
held_set (x ∷ xs) zero (suc k) y from e = inr e
held_set (x ∷ xs) (suc i) zero y from e = inr e
held_set (x ∷ xs) (suc i) (suc k) y from e = ⊎_elim (λ p. inl (ap suc p.0, p.1)) (λ h. inr h) (held_set xs i k y from e)

pub known_more : (rows : List SkuRow) (skus : List Sku) (n place : ℕ) (old new : List (Option ℕ)) (found : Option ℕ) → new ≡ set old place found
    → ((from : ℕ) → found ≡ Some from → value_within rows skus (name_at skus place) (n + 1) ≡ Some (name_at skus from)) → AreKnown rows skus n old → AreKnown rows skus (n + 1) new
known_more rows skus n place old new found is there known = λ other from e.
    ⊎_elim (λ p. ap (λ k. value_within rows skus (name_at skus k) (n + 1)) p.0 ∙ there from p.1)
    (λ h. within_far rows skus (name_at skus other) (name_at skus from) n (n + 1) (omega arith) (known other from h))
    (held_set old place other found from (ap (λ xs. at_place xs other) (sym is) ∙ e))

pub known_none : (rows : List SkuRow) (skus : List Sku) (known : List (Option ℕ)) → known ≡ map (λ sku. None) skus → AreKnown rows skus 0 known
known_none rows skus known e = λ place from f. at (slice_get skus place) place from (sym (ap held (ap (λ xs. slice_get xs place) e ∙ slice_get-map (λ (sku : Sku). None) skus place)) ∙ f)
  where
    at : (s : Option Sku) (place from : ℕ) → held (option_map (λ (sku : Sku). None) s) ≡ Some from → value_within rows skus (name_at skus place) 0 ≡ Some (name_at skus from)
    at None place from f = absurd cc
    at (Some sku) place from f = absurd cc

-- the SKU that a name takes its value from
source_known : (rows : List SkuRow) (skus : List Sku) (tables : SkuTables) (known : List (Option ℕ)) (sku : List ℕ) (from : ℕ) (found : Sku) → AreTables skus tables
    → option_and_then (at_place known) (within skus (get same_name tables.firsts sku)) ≡ Some from → slice_get skus from ≡ Some found → AreKnown rows skus (length tables.order.items) known
    → value_within rows skus sku (length skus + 1) ≡ Some found.name
source_known rows skus tables known sku from found are e s k = at (within skus (get same_name tables.firsts sku)) refl e
  where
    at : (o : Option ℕ) → within skus (get same_name tables.firsts sku) ≡ o → option_and_then (at_place known) o ≡ Some from → value_within rows skus sku (length skus + 1) ≡ Some found.name
    at None t f = absurd cc
    at (Some place) t f =
        let few = are.few in
        let named : sku ≡ name_at skus place = placed skus (get same_name tables.firsts sku) sku place (are.firsts sku) t in
        ap (λ m. value_within rows skus m (length skus + 1)) named
        ∙ within_far rows skus (name_at skus place) (name_at skus from) (length tables.order.items) (length skus + 1) (omega (arith, few)) (k place from f)
        ∙ ap (λ o. Some (name_or o)) s

pub source_seen : {V : Type 0} (view : V → Sku) (rows : List SkuRow) (skus : List Sku) (tables : SkuTables) (known : List (Option ℕ)) (sku : List ℕ) (from : Option ℕ) (found : Option V)
    → AreTables skus tables → from ≡ option_and_then (at_place known) (within skus (get same_name tables.firsts sku)) → option_map view found ≡ sku_at skus from
    → AreKnown rows skus (length tables.order.items) known → IfSome found (λ v. value_within rows skus sku (length skus + 1) ≡ Some (view v).name)
source_seen view rows skus tables known sku from None are e s k = tt
source_seen view rows skus tables known sku None (Some v) are e s k = absurd cc
source_seen view rows skus tables known sku (Some place) (Some v) are e s k = source_known rows skus tables known sku place (view v) are (sym e) (sym s) k
