-- What a loop has made once it has passed one item more.
use Rattle.std.proofs.Common.{◌≡◌, ◌∙◌, ◌+◌, ◌<◌, ℕ, Bool, List, [], ◌∷◌, ◌++◌, length, take, get_or, map, add-one, append_assoc, sym, ap}
use Rattle.std.specs.Prelude.{filter}
use Rattle.std.specs.List.{flat_map}
use Rattle.std.proofs.Math.Seq.{take-suc}
use Rattle.std.proofs.lemmas.List.{flat_map_more, map-append}
use Rattle.std.proofs.lemmas.List.Elements.{filter-append}

pub take_more : {Y : Type 0} (ys : List Y) (i : ℕ) (y : Y) → i < length ys → y ≡ get_or ys i y → take (i + 1) ys ≡ take i ys ++ y ∷ []
take_more ys i y h e = ap (λ n. take n ys) (add-one i) ∙ take-suc ys i y h ∙ ap (λ z. take i ys ++ z ∷ []) (sym e)

-- of a function that gives for two lists together what it gives for each
pub passed : {X Y : Type 0} (g : List Y → List X) (ys : List Y) (i : ℕ) (y : Y) (front all more : List X)
    → ((xs zs : List Y) → g (xs ++ zs) ≡ g xs ++ g zs) → i < length ys → y ≡ get_or ys i y
    → all ≡ front ++ g (take i ys) → more ≡ all ++ g (y ∷ []) → more ≡ front ++ g (take (i + 1) ys)
passed g ys i y front all more law h e inv put =
    put ∙ ap (λ z. z ++ g (y ∷ [])) inv ∙ append_assoc front (g (take i ys)) (g (y ∷ []))
    ∙ ap (λ z. front ++ z) (sym (ap g (take_more ys i y h e) ∙ law (take i ys) (y ∷ [])))

pub map_filter : {X Z : Type 0} (f : X → Z) (p : X → Bool) (xs ys : List X) → map f (filter p (xs ++ ys)) ≡ map f (filter p xs) ++ map f (filter p ys)
map_filter f p xs ys = ap (map f) (filter-append p xs ys) ∙ map-append f (filter p xs) (filter p ys)

pub map_filter_map : {X Y Z : Type 0} (f : X → Z) (p : X → Bool) (view : Y → X) (xs ys : List Y)
    → map f (filter p (map view (xs ++ ys))) ≡ map f (filter p (map view xs)) ++ map f (filter p (map view ys))
map_filter_map f p view xs ys = ap (λ zs. map f (filter p zs)) (map-append view xs ys) ∙ map_filter f p (map view xs) (map view ys)

-- of a list for each item
pub flat_passed : {X Y : Type 0} (f : Y → List X) (ys : List Y) (i : ℕ) (y d : Y) (front all more : List X)
    → i < length ys → y ≡ get_or ys i y → d ≡ y
    → all ≡ front ++ flat_map f (take i ys) → more ≡ all ++ f d → more ≡ front ++ flat_map f (take (i + 1) ys)
flat_passed f ys i y d front all more h e same inv put =
    put ∙ ap (λ z. all ++ f z) same ∙ ap (λ z. z ++ f y) inv ∙ flat_map_more f front (take i ys) y
    ∙ ap (λ z. front ++ flat_map f z) (sym (take_more ys i y h e))
