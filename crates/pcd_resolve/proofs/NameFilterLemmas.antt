-- Marks of names.
use Rattle.std.proofs.Common.{◌≡◌, ◌<◌, ℕ, zero, suc, Bool, true, List, [], ◌∷◌, length, map, set, slice_get, get_or, subst, refl, sym, ap}
use Rattle.std.specs.List.{All}
use Rattle.std.proofs.lemmas.List.Elements.{All-nil, All-cons, All-head, All-tail, All-get_or, All-weaker}
use Rattle.pcd_resolve.specs.Tables.{AllKept}
use Rattle.doc_types.specs.NamePlaces.{place_of}
use Rattle.pcd_resolve.specs.NameFilter.{is_kept, mark_of, with_mark, with_marks}

marked_there : (marks : List Bool) (k : ℕ) → mark_of (slice_get (set marks k true) k) ≡ true
marked_there [] k = refl
marked_there (mark ∷ marks) zero = refl
marked_there (mark ∷ marks) (suc k) = marked_there marks k

marked_still : (marks : List Bool) (k place : ℕ) → mark_of (slice_get marks place) ≡ true → mark_of (slice_get (set marks k true) place) ≡ true
marked_still [] k place e = e
marked_still (mark ∷ marks) zero zero e = refl
marked_still (mark ∷ marks) zero (suc place) e = e
marked_still (mark ∷ marks) (suc k) zero e = e
marked_still (mark ∷ marks) (suc k) (suc place) e = marked_still marks k place e

-- a name that is marked stays so
pub stays : (marks : List Bool) (names : List (List ℕ)) (name : List ℕ) → is_kept marks name ≡ true → is_kept (with_marks marks names) name ≡ true
stays marks [] name e = e
stays marks (one ∷ names) name e = stays (with_mark marks one) names name (marked_still marks (place_of one) (place_of name) e)

-- each name that was marked is
pub each_kept : (marks : List Bool) (names : List (List ℕ)) → All (λ n. is_kept (with_marks marks names) n ≡ true) names
each_kept marks [] = All-nil (λ n. is_kept (with_marks marks []) n ≡ true)
each_kept marks (name ∷ names) =
    All-cons (λ n. is_kept (with_marks marks (name ∷ names)) n ≡ true) name names
    (stays (with_mark marks name) names name (marked_there marks (place_of name)))
    (each_kept (with_mark marks name) names)

pub last_kept : (before marks : List Bool) (names : List (List ℕ)) → marks ≡ with_marks before names → AllKept marks names
last_kept before marks names e = subst (λ m. AllKept m names) (sym e) (each_kept before names)

pub first_kept : (none before marks : List Bool) (names more : List (List ℕ)) → before ≡ with_marks none names → marks ≡ with_marks before more → AllKept marks names
first_kept none before marks names more b e =
    subst (λ m. AllKept m names) (sym e)
    (All-weaker (λ n. is_kept before n ≡ true) (λ n. is_kept (with_marks before more) n ≡ true) (stays before more) names (last_kept none before names b))

-- each of some names is
pub unmapped : {X Y : Type 0} (P : Y → Type 0) (f : X → Y) (xs : List X) → All P (map f xs) → All (λ x. P (f x)) xs
unmapped P f [] h = All-nil (λ x. P (f x))
unmapped P f (x ∷ xs) h = All-cons (λ x. P (f x)) x xs (All-head P (f x) (map f xs) h) (unmapped P f xs (All-tail P (f x) (map f xs) h))

pub kept_at : {X : Type 0} (marks : List Bool) (f : X → List ℕ) (xs : List X) (i : ℕ) (x : X) → i < length xs → x ≡ get_or xs i x → AllKept marks (map f xs) → is_kept marks (f x) ≡ true
kept_at marks f xs i x h e all = subst (λ y. is_kept marks (f y) ≡ true) (sym e) (All-get_or (λ y. is_kept marks (f y) ≡ true) xs i x h (unmapped (λ n. is_kept marks n ≡ true) f xs all))

pub map_twice : {X Y Z : Type 0} (f : Y → Z) (g : X → Y) (xs : List X) → map f (map g xs) ≡ map (λ x. f (g x)) xs
map_twice f g [] = refl
map_twice f g (x ∷ xs) = ap (λ zs. f (g x) ∷ zs) (map_twice f g xs)

pub kept_twice : {X Y : Type 0} (marks : List Bool) (f : Y → List ℕ) (g : X → Y) (xs : List X) (i : ℕ) (x : X) → i < length xs → x ≡ get_or xs i x → AllKept marks (map f (map g xs)) → is_kept marks (f (g x)) ≡ true
kept_twice marks f g xs i x h e all =
    kept_at marks (λ x. f (g x)) xs i x h e (subst (AllKept marks) (map_twice f g xs) all)
