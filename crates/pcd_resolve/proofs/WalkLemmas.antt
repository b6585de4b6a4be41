-- The walks of chosen SKUs.
use Rattle.std.proofs.Common.{◌≡◌, ◌∙◌, Bool, map, List, [], ◌∷◌, ap}
use Rattle.std.specs.Prelude.{filter}
use Rattle.std.specs.List.{All}
use Rattle.std.proofs.lemmas.List.Elements.{All-nil, All-cons, All-head, All-tail, All-same, All-filter, All-weaker}
use Rattle.doc_types.specs.declared.platform.Sku.{Sku}
use Rattle.doc_types.specs.SkuWalks.{EndsAtDefault}
use Rattle.doc_types.proofs.WalkLemmas.{walk_ends}
use Rattle.pcd_values.specs.Skus.{WalkEnds}
use Rattle.pcd_resolve.specs.Platform.{SkusEnd}

-- what holds of all that is seen
pub all_seen : {V X : Type 0} (view : V → X) (P : X → Type 0) (vs : List V) → All P (map view vs) → All (λ v. P (view v)) vs
all_seen view P [] h = All-nil (λ v. P (view v))
all_seen view P (v ∷ vs) h =
    All-cons (λ v. P (view v)) v vs (All-head P (view v) (map view vs) h) (all_seen view P vs (All-tail P (view v) (map view vs) h))

-- some SKUs of a platform whose walks end at DEFAULT
pub chosen_walks : {V : Type 0} (view : V → Sku) (skus : List Sku) (wanted : Sku → Bool) (picked found : List V)
    → picked ≡ found → map view found ≡ filter wanted skus → SkusEnd skus → All (λ s. WalkEnds skus (view s).name) picked
chosen_walks view skus wanted picked found same e h =
    all_seen view (λ s. WalkEnds skus s.name) picked
    (All-same (λ s. WalkEnds skus s.name) (map view picked) (filter wanted skus) (ap (map view) same ∙ e)
    (All-filter wanted (λ s. WalkEnds skus s.name) skus (All-weaker (λ s. EndsAtDefault skus s.name) (λ s. WalkEnds skus s.name) (λ s. walk_ends skus s.name) skus h)))
