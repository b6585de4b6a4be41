-- Tables of SKUs, and the values that are found by them.
use Rattle.std.proofs.Common.{◌≡◌, ◌∙◌, ◌≤◌, ◌<◌, ◌+◌, ℕ, Bool, true, false, cond, List, [], ◌∷◌, length, drop, map, get_or, slice_get, Option, Some, None, codes, refl, sym, ap, subst}
use Rattle.std.specs.Prelude.{find}
use Rattle.std.specs.Option.{option_map}
use Rattle.std.specs.HashMap.{HashMap, get}
use Rattle.std.specs.Str.{bytes_eq}
use Rattle.std.specs.Cmp.Lexicographic.{same_text}
use Rattle.std.proofs.lemmas.List.{length-map}
use Rattle.std.proofs.lemmas.Option.{slice_get-get_or, slice_get-map}
use Rattle.build_base.proofs.Steps.{head_drop}
use Rattle.doc_types.specs.declared.platform.Sku.{Sku}
use Rattle.doc_types.specs.SkuWalks.{stated_parent, parent}
use Rattle.pcd_resolve.specs.SkuTables.{same_name, has_name, sku_at, FirstsFrom, Firsts, name_or, name_at, within, up_from, up_of, held, at_place, AreUps}

found_here : (p : Sku → Bool) (x : Sku) (xs rest : List Sku) (i : ℕ) (o : Option ℕ) (b : Bool) → p x ≡ b → sku_at xs (Some i) ≡ Some x → sku_at xs o ≡ find p rest
    → sku_at xs (cond b (Some i) o) ≡ find p (x ∷ rest)
found_here p x xs rest i o true e here h = here ∙ sym (ap (λ b. cond b (Some x) (find p rest)) e)
found_here p x xs rest i o false e here h = h ∙ sym (ap (λ b. cond b (Some x) (find p rest)) e)

-- one SKU more before them
pub firsts_more : {S : Type 0} (skus : List Sku) (n m : ℕ) (sku : Sku) (old new : HashMap (List ℕ) ℕ S) → m ≡ n + 1 → n < length skus → sku ≡ get_or skus n sku
    → ((key : List ℕ) → get same_name new key ≡ cond (has_name key sku) (Some n) (get same_name old key)) → FirstsFrom skus m old → FirstsFrom skus n new
firsts_more skus n m sku old new e h is put table = λ key.
    ap (sku_at skus) (put key)
    ∙ found_here (has_name key) sku skus (drop (n + 1) skus) n (get same_name old key) (has_name key sku) refl
    (slice_get-get_or skus n sku h ∙ ap (λ (s : Sku). Some s) (sym is)) (table key ∙ ap (λ k. find (has_name key) (drop k skus)) e)
    ∙ sym (ap (find (has_name key)) (head_drop skus n sku h is))

-- the parent is that of the first SKU of the name
stated_found : (skus : List Sku) (name : List ℕ) → stated_parent skus name ≡ option_map (λ sku. sku.parent) (find (has_name name) skus)
stated_found [] name = refl
stated_found (sku ∷ skus) name = at (bytes_eq sku.name name) (stated_found skus name)
  where
    at : (b : Bool) → stated_parent skus name ≡ option_map (λ s. s.parent) (find (has_name name) skus)
        → cond b (Some sku.parent) (stated_parent skus name) ≡ option_map (λ s. s.parent) (cond b (Some sku) (find (has_name name) skus))
    at true rest = refl
    at false rest = rest

found_named : (skus : List Sku) (name : List ℕ) (found : Sku) → find (has_name name) skus ≡ Some found → found.name ≡ name
found_named [] name found e = absurd cc
found_named (sku ∷ skus) name found e = at (bytes_eq sku.name name) refl e (λ h. found_named skus name found h)
  where
    at : (b : Bool) → bytes_eq sku.name name ≡ b → cond b (Some sku) (find (has_name name) skus) ≡ Some found → (find (has_name name) skus ≡ Some found → found.name ≡ name) → found.name ≡ name
    at true t h rest = let same : sku ≡ found = cc in ap (λ (s : Sku). s.name) (sym same) ∙ same_text sku.name name (sym t)
    at false t h rest = rest h

-- a place at which a table has a name has that name
pub placed : (skus : List Sku) (o : Option ℕ) (name : List ℕ) (up : ℕ) → sku_at skus o ≡ find (has_name name) skus → within skus o ≡ Some up → name ≡ name_at skus up
placed skus None name up h e = absurd cc
placed skus (Some place) name up h e = at (slice_get skus place) refl e
  where
    at : (s : Option Sku) → slice_get skus place ≡ s → option_map (λ sku. place) s ≡ Some up → name ≡ name_at skus up
    at None t f = absurd cc
    at (Some sku) t f =
        let same : place ≡ up = cc in
        sym (found_named skus name sku (sym h ∙ t)) ∙ ap name_or (sym t) ∙ ap (name_at skus) same

pub up_is : {S : Type 0} (skus : List Sku) (table : HashMap (List ℕ) ℕ S) (name : List ℕ) (up : ℕ) → Firsts skus table → up_of skus table name ≡ Some up → parent skus name ≡ Some (name_at skus up)
unfolding up_of parent
up_is skus table name up firsts e = at (bytes_eq name (codes "DEFAULT")) refl e
  where
    from : (o : Option Sku) → up_from skus table o ≡ Some up → option_map (λ sku. sku.parent) o ≡ Some (name_at skus up)
    from None f = absurd cc
    from (Some first) f = ap (λ (n : List ℕ). Some n) (placed skus (get same_name table first.parent) first.parent up (firsts first.parent) f)

    at : (b : Bool) → bytes_eq name (codes "DEFAULT") ≡ b → cond b None (up_from skus table (sku_at skus (get same_name table name))) ≡ Some up
        → cond b None (stated_parent skus name) ≡ Some (name_at skus up)
    at true t f = absurd cc
    at false t f =
        stated_found skus name
        ∙ from (find (has_name name) skus) (ap (up_from skus table) (sym (firsts name)) ∙ f)

pub ups_are : {S : Type 0} (skus : List Sku) (table : HashMap (List ℕ) ℕ S) (ups : List (Option ℕ)) → Firsts skus table → ups ≡ map (λ sku. up_of skus table sku.name) skus → AreUps skus ups
ups_are skus table ups firsts e = λ place up f. at place up (slice_get skus place) refl (sym (ap (λ us. at_place us place) e ∙ ap held (slice_get-map (λ (sku : Sku). up_of skus table sku.name) skus place)) ∙ f)
  where
    at : (place up : ℕ) (s : Option Sku) → slice_get skus place ≡ s → held (option_map (λ (sku : Sku). up_of skus table sku.name) (slice_get skus place)) ≡ Some up
        → parent skus (name_at skus place) ≡ Some (name_at skus up)
    at place up None t f = absurd cc
    at place up (Some sku) t f =
        ap (λ s. parent skus (name_or s)) t
        ∙ up_is skus table sku.name up firsts (sym (ap (λ s. held (option_map (λ (sku : Sku). up_of skus table sku.name) s)) t) ∙ f)

pub few_of : {S : Type 0} (skus : List Sku) (table : HashMap (List ℕ) ℕ S) (ups now : List (Option ℕ)) (order : List ℕ) → ups ≡ map (λ sku. up_of skus table sku.name) skus → now ≡ ups
    → length order ≤ length now → length order ≤ length skus
few_of skus table ups now order e same h =
    subst (λ n. length order ≤ n) (ap length (same ∙ e) ∙ length-map skus (λ (sku : Sku). up_of skus table sku.name)) h
