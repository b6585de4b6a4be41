-- What a wave answers.
use Rattle.std.specs.Prelude.{◌≡◌, List, [], ◌++◌, ◌∷◌, Result, Ok, All}
use Rattle.std.specs.List.{AllZip}

-- the work may be called on each item
abbrev pub AreCallable : {F I : Type 0} → (F → I → Type 0) → F → List I → Type 0
AreCallable pre work items = All (pre work) items

-- result k is one that the work may answer for item k
abbrev pub AreAnswers : {F I R E : Type 0} → (F → I → Result R E → Type 0) → F → List I → List R
    → Type 0
AreAnswers post work items results = AllZip (λ i r. post work i (Ok r)) items results

-- the items of both
abbrev pub Both : {X Y E : Type 0} → (Y → List X) → Result Y E → Result Y E → List X → Type 0
Both {Y = Y} items first second all = (x : Y) × (y : Y) × (first ≡ Ok x) × (second ≡ Ok y)
    × (all ≡ items x ++ items y)

-- one more result, which the work may answer for the item
abbrev pub WorkedOn : {F I R E : Type 0} → (F → I → Result R E → Type 0) → F → I → List R → List R
    → Type 0
WorkedOn {R = R} post work item before after = (result : R) × (after ≡ before ++ result ∷ [])
    × post work item (Ok result)
