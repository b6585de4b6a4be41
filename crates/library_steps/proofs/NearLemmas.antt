-- SKUs that are near DEFAULT.
use Rattle.std.specs.Prelude.{◌||◌, ◌&&◌}
use Rattle.std.proofs.Common.{arith, ◌≡◌, ◌∙◌, ◌<◌, ◌≤◌, ◌+◌, ℕ, zero, suc, Bool, true, false, cond, List, [], ◌∷◌, length, drop, map, set, slice_get, Option, Some, None, ◌⊎◌, inl, inr, ⊎_elim, refl, sym, ap, subst, add-one}
use Rattle.std.specs.List.{list_all}
use Rattle.std.specs.Option.{option_map}
use Rattle.std.proofs.lemmas.List.{drop_more}
use Rattle.std.proofs.lemmas.Option.{slice_get-get_or, slice_get-map}
use Rattle.doc_types.specs.declared.platform.Sku.{Sku}
use Rattle.doc_types.specs.SkuWalks.{parent}
use Rattle.pcd_resolve.specs.declared.sku_tables.SkuTables.{SkuTables}
use Rattle.pcd_resolve.specs.SkuTables.{name_or, name_at, at_place, AreTables, AreUps}
use Rattle.library_steps.specs.Near.{mark_at, mark_above, is_near, AreNear}
use Rattle.library_steps.specs.Skus.{or_not, is_default, reaches}

or_right : (a b : Bool) → b ≡ true → (a || b) ≡ true
or_right true b e = refl
or_right false b e = e

-- more steps reach what fewer do
pub reaches_far : (skus : List Sku) (name : List ℕ) (n m : ℕ) → n ≤ m → reaches skus name n ≡ true → reaches skus name m ≡ true
unfolding reaches
reaches_far skus name zero zero h e = e
reaches_far skus name zero (suc m) h e = ap (λ b. b || or_not (option_map (λ next. reaches skus next m) (parent skus name))) e
reaches_far skus name (suc n) zero h e = absurd (omega (arith, h))
reaches_far skus name (suc n) (suc m) h e =
    let less : n ≤ m = omega (arith, h) in
    at (is_default name) (parent skus name) (λ next f. reaches_far skus next n m less f) e
  where
    at : (b : Bool) (o : Option (List ℕ)) → ((x : List ℕ) → reaches skus x n ≡ true → reaches skus x m ≡ true)
        → (b || or_not (option_map (λ next. reaches skus next n) o)) ≡ true → (b || or_not (option_map (λ next. reaches skus next m) o)) ≡ true
    at true o rest f = refl
    at false None rest f = absurd cc
    at false (Some x) rest f = rest x f

-- a SKU whose parent is near is near
near_step : (skus : List Sku) (ups : List (Option ℕ)) (marks : List Bool) (place n : ℕ) → AreUps skus ups → AreNear skus n marks → is_near skus ups marks place ≡ true
    → reaches skus (name_at skus place) (n + 1) ≡ true
unfolding reaches
near_step skus ups marks place n u near e =
    ap (reaches skus (name_at skus place)) (add-one n) ∙ at (is_default (name_at skus place)) (at_place ups place) refl e
  where
    at : (b : Bool) (o : Option ℕ) → at_place ups place ≡ o → (b || mark_above marks o) ≡ true → (b || or_not (option_map (λ next. reaches skus next n) (parent skus (name_at skus place)))) ≡ true
    at true o t f = refl
    at false None t f = absurd cc
    at false (Some up) t f = ap (λ p. or_not (option_map (λ next. reaches skus next n) p)) (u place up t) ∙ near up f

mark_set : (marks : List Bool) (i k : ℕ) → mark_at (set marks i true) k ≡ true → (k ≡ i) ⊎ (mark_at marks k ≡ true)
mark_set [] i k e = inr e
mark_set (x ∷ xs) zero zero e = inl refl
mark_set (x ∷ xs) zero (suc k) e = inr e
mark_set (x ∷ xs) (suc i) zero e = inr e
mark_set (x ∷ xs) (suc i) (suc k) e = ⊎_elim (λ p. inl (ap suc p)) (λ h. inr h) (mark_set xs i k e)

pub near_more : (skus : List Sku) (tables : SkuTables) (ups : List (Option ℕ)) (place n : ℕ) (old new : List Bool) → AreTables skus tables → ups ≡ tables.ups.items
    → new ≡ cond (is_near skus ups old place) (set old place true) old → AreNear skus n old → AreNear skus (n + 1) new
near_more skus tables ups place n old new are u is near = at (is_near skus ups old place) refl is
  where
    far : (k : ℕ) → mark_at old k ≡ true → reaches skus (name_at skus k) (n + 1) ≡ true
    far k e = reaches_far skus (name_at skus k) n (n + 1) (omega arith) (near k e)

    at : (b : Bool) → is_near skus ups old place ≡ b → new ≡ cond b (set old place true) old → AreNear skus (n + 1) new
    at false t same = λ k e. far k (ap (λ ms. mark_at ms k) (sym same) ∙ e)
    at true t same = λ k e.
        ⊎_elim
        (λ p. ap (λ j. reaches skus (name_at skus j) (n + 1)) p
        ∙ near_step skus ups old place n (subst (AreUps skus) (sym u) are.ups) near t)
        (λ h. far k h)
        (mark_set old place k (ap (λ ms. mark_at ms k) (sym same) ∙ e))

pub near_none : (skus : List Sku) (marks : List Bool) → marks ≡ map (λ sku. false) skus → AreNear skus 0 marks
near_none skus marks e = λ place f. at (slice_get skus place) place (sym (ap or_not (ap (λ ms. slice_get ms place) e ∙ slice_get-map (λ (sku : Sku). false) skus place)) ∙ f)
  where
    at : (s : Option Sku) (place : ℕ) → or_not (option_map (λ (sku : Sku). false) s) ≡ true → reaches skus (name_at skus place) 0 ≡ true
    at None place f = absurd cc
    at (Some sku) place f = absurd cc

-- of the whole order
pub near_all : (skus : List Sku) (tables : SkuTables) (order : List ℕ) (n : ℕ) (marks : List Bool) → AreTables skus tables → order ≡ tables.order.items → n ≤ length order
    → AreNear skus n marks → AreNear skus (length skus) marks
near_all skus tables order n marks are o h near = λ place e.
    let few = are.few in
    let same : length order ≡ length tables.order.items = ap length o in
    reaches_far skus (name_at skus place) n (length skus) (omega (arith, few, same, h)) (near place e)

-- the SKUs from a place on
no_sku : Sku
no_sku = record { id = 0; name = []; parent = [] }

left_is : (skus : List Sku) (p : List ℕ → Bool) (place : ℕ) → place < length skus
    → list_all (λ sku. p sku.name) (drop place skus) ≡ (p (name_at skus place) && list_all (λ sku. p sku.name) (drop (place + 1) skus))
left_is skus p place h =
    ap (list_all (λ (sku : Sku). p sku.name)) (drop_more skus place no_sku h)
    ∙ ap (λ o. p (name_or o) && list_all (λ (sku : Sku). p sku.name) (drop (place + 1) skus)) (sym (slice_get-get_or skus place no_sku h))

pub all_passed : (skus : List Sku) (p : List ℕ → Bool) (place : ℕ) (whole : Bool) → place < length skus → p (name_at skus place) ≡ true → list_all (λ sku. p sku.name) (drop place skus) ≡ whole
    → list_all (λ sku. p sku.name) (drop (place + 1) skus) ≡ whole
all_passed skus p place whole h e f =
    sym (left_is skus p place h ∙ ap (λ b. b && list_all (λ (sku : Sku). p sku.name) (drop (place + 1) skus)) e) ∙ f

pub all_failed : (skus : List Sku) (p : List ℕ → Bool) (place : ℕ) (whole : Bool) → place < length skus → p (name_at skus place) ≡ false → list_all (λ sku. p sku.name) (drop place skus) ≡ whole
    → false ≡ whole
all_failed skus p place whole h e f =
    sym (left_is skus p place h ∙ ap (λ b. b && list_all (λ (sku : Sku). p sku.name) (drop (place + 1) skus)) e) ∙ f
