-- The sizes of regions by names in lower case.
use Rattle.std.proofs.Common.{◌≡◌, ◌∙◌, ℕ, ◌==◌, Bool, true, false, ◌||◌, cond, nat_eq, if◌then◌else◌, List, [], ◌∷◌, ◌++◌, Option, Some, None, refl, sym, ap}
use Rattle.std.specs.Prelude.{is_some}
use Rattle.std.specs.Global.{Vec}
use Rattle.std.specs.HashMap.{HashMap, get}
use Rattle.std.specs.Cmp.Lexicographic.{pointwise, same_text}
use Rattle.flash_document.specs.declared.held.HeldRegion.{HeldRegion}
use Rattle.flash_document.specs.declared.held.HeldSizes.{HeldSizes}
use Rattle.flash_document.specs.Names.{lower_case, same_key}
use Rattle.flash_document.specs.Whole.{other_in, sizes_of, regions_named, held_by}
use Rattle.flash_document.specs.Held.{with_region, Sizes}

other_push : (size : ℕ) (rs : List HeldRegion) (r : HeldRegion)
    → other_in size (rs ++ r ∷ []) ≡ (if is_some (other_in size rs) || (r.size == size) then other_in size rs else Some r.size)
other_push size [] r =
    elim (r.size == size) as (λ b. (if b then None else Some r.size) ≡ (if b then None else Some r.size)) [
      | true ↦ refl
      | false ↦ refl
    ]
other_push size (x ∷ xs) r =
    elim (x.size == size) as (λ b. (if b then other_in size (xs ++ r ∷ []) else Some x.size)
    ≡ (if is_some (if b then other_in size xs else Some x.size) || (r.size == size) then (if b then other_in size xs else Some x.size) else Some r.size)) [
      | true ↦ other_push size xs r
      | false ↦ refl
    ]

sized : ℕ → Option ℕ → Option ℕ → HeldSizes
sized first block other = record { first = first; block = block; other = other }

-- one region more
pub sizes_push : (rs : List HeldRegion) (r : HeldRegion) → sizes_of (rs ++ r ∷ []) ≡ Some (with_region (sizes_of rs) r)
unfolding sized
sizes_push [] r = refl
sizes_push (x ∷ xs) r =
    ap (λ o. Some (sized x.size x.block o)) (other_push x.size xs r)
    ∙ elim (is_some (other_in x.size xs) || (r.size == x.size)) as (λ b. Some (sized x.size x.block (if b then other_in x.size xs else Some r.size))
    ≡ Some (if b then sized x.size x.block (other_in x.size xs) else sized x.size x.block (Some r.size))) [
      | true ↦ refl
      | false ↦ refl
    ]

named_push : (key : List ℕ) (rs : List HeldRegion) (r : HeldRegion)
    → regions_named key (rs ++ r ∷ []) ≡ (if pointwise nat_eq (lower_case r.name) key then regions_named key rs ++ r ∷ [] else regions_named key rs)
named_push key [] r =
    elim (pointwise nat_eq (lower_case r.name) key) as (λ b. (if b then r ∷ [] else []) ≡ (if b then r ∷ [] else [])) [
      | true ↦ refl
      | false ↦ refl
    ]
named_push key (x ∷ xs) r =
    ap (λ ys. if pointwise nat_eq (lower_case x.name) key then x ∷ ys else ys) (named_push key xs r)
    ∙ elim (pointwise nat_eq (lower_case x.name) key) as (λ b. (if b then x ∷ (if pointwise nat_eq (lower_case r.name) key then regions_named key xs ++ r ∷ [] else regions_named key xs) else (if pointwise nat_eq (lower_case r.name) key then regions_named key xs ++ r ∷ [] else regions_named key xs))
    ≡ (if pointwise nat_eq (lower_case r.name) key then (if b then x ∷ regions_named key xs else regions_named key xs) ++ r ∷ [] else (if b then x ∷ regions_named key xs else regions_named key xs))) [
      | true ↦ in_front (pointwise nat_eq (lower_case r.name) key) x (regions_named key xs) r
      | false ↦ refl
    ]
  where
    in_front : (t : Bool) (x : HeldRegion) (ys : List HeldRegion) (r : HeldRegion) → (x ∷ (if t then ys ++ r ∷ [] else ys)) ≡ (if t then (x ∷ ys) ++ r ∷ [] else x ∷ ys)
    in_front true x ys r = refl
    in_front false x ys r = refl

added_at : (t : Bool) (old found : Option HeldSizes) (next next' : HeldSizes) (rs : List HeldRegion) (r : HeldRegion)
    → (t ≡ true → next ≡ next') → sizes_of (rs ++ r ∷ []) ≡ Some next' → old ≡ sizes_of rs
    → cond t (Some next) old ≡ sizes_of (if t then rs ++ r ∷ [] else rs)
added_at true old found next next' rs r same pushed h = ap Some (same refl) ∙ sym pushed
added_at false old found next next' rs r same pushed h = h

pub sizes_added : {S : Type 0} (above : List HeldRegion) (r : HeldRegion) (m n : HashMap (Vec ℕ) HeldSizes S) (k : Vec ℕ)
    → k.items ≡ lower_case r.name → Sizes above m
    → ((q : Vec ℕ) → get same_key n q ≡ cond (same_key k q) (Some (with_region (get same_key m k) r)) (get same_key m q))
    → Sizes (above ++ r ∷ []) n
sizes_added above r m n k is h update = λ q.
    let key : pointwise nat_eq k.items q.items ≡ pointwise nat_eq (lower_case r.name) q.items = ap (λ x. pointwise nat_eq x q.items) is in
    update q ∙ ap (λ b. cond b (Some (with_region (get same_key m k) r)) (get same_key m q)) key
    ∙ added_at (pointwise nat_eq (lower_case r.name) q.items) (get same_key m q) None (with_region (get same_key m k) r) (with_region (held_by q.items above) r) (regions_named q.items above) r
    (λ t. ap (λ o. with_region o r) (h k ∙ ap (λ x. held_by x above) (is ∙ same_text _ _ (sym t))))
    (sizes_push (regions_named q.items above) r) (h q)
    ∙ sym (ap sizes_of (named_push q.items above r))

-- no size is in an empty table
pub sizes_none : {S : Type 0} (m : HashMap (Vec ℕ) HeldSizes S) → m.entries ≡ [] → Sizes [] m
sizes_none m e = λ q. rw e refl
