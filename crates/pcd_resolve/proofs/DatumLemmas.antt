-- Lines against the declarations of uses.
use Rattle.std.proofs.Common.{◌≡◌, ◌∙◌, Bool, true, false, ◌&&◌, ◌||◌, List, [], ◌∷◌, refl, ap}
use Rattle.std.specs.List.{list_any}
use Rattle.doc_types.specs.declared.pcd.Datum.{Datum}
use Rattle.doc_types.specs.declared.pcd.Datum.TheVariants.{U8, U16, U32, U64, Boolean, Void}
use Rattle.doc_types.specs.declared.pcd.Kind.{Kind}
use Rattle.pcd_ranks.specs.Names.{same_datum}
use Rattle.pcd_ranks.specs.Listing.{Use, Stated, applies}
use Rattle.pcd_resolve.specs.Faults.{is_other, is_against}

same_is : (d e : Datum) → same_datum d e ≡ true → d ≡ e
unfolding same_datum
same_is U8 U8 h = refl
same_is U16 U16 h = refl
same_is U32 U32 h = refl
same_is U64 U64 h = refl
same_is Boolean Boolean h = refl
same_is Void Void h = refl
same_is d e h = absurd cc

both_none : (p q : Bool) → q ≡ false → (p && q) ≡ false
both_none true q h = h
both_none false q h = refl

first_none : (p q : Bool) → (p || q) ≡ false → p ≡ false
first_none true q h = h
first_none false q h = refl

later_none : (p q : Bool) → (p || q) ≡ false → q ≡ false
later_none true q h = absurd cc
later_none false q h = h

narrowed : {X : Type 0} (p q : X → Bool) (xs : List X) → list_any q xs ≡ false → list_any (λ x. p x && q x) xs ≡ false
narrowed p q [] h = refl
narrowed p q (x ∷ xs) h =
    ap (λ b. b || list_any (λ x. p x && q x) xs) (both_none (p x) (q x) (first_none (q x) (list_any q xs) h))
    ∙ narrowed p q xs (later_none (q x) (list_any q xs) h)

-- where the packages of all uses declare one type, no line of this type is against one of them
pub none_against : (kind : Kind) (datum one : Datum) (stated : Stated) (uses : List Use)
    → same_datum datum one ≡ true → list_any (is_other kind one) uses ≡ false
    → list_any (is_against kind datum stated) uses ≡ false
none_against kind datum one stated uses same none =
    narrowed (λ used. applies used.user stated) (is_other kind datum) uses
    (ap (λ d. list_any (is_other kind d) uses) (same_is datum one same) ∙ none)
