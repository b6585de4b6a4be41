-- Tables of items by their names.
use Rattle.std.proofs.Common.{◌≡◌, ◌∙◌, ◌+◌, ◌<◌, length, take, get_or, add-one, append_assoc, ℕ, Bool, true, false, cond, map, List, [], ◌∷◌, ◌++◌, refl, sym, ap}
use Rattle.std.specs.Prelude.{filter}
use Rattle.std.specs.Cmp.Lexicographic.{same_text}
use Rattle.std.specs.Global.{Vec}
use Rattle.std.specs.HashMap.{HashMap}
use Rattle.std.specs.Str.{bytes_eq}
use Rattle.std.specs.List.{flat_map}
use Rattle.std.proofs.Math.Seq.{take-suc}
use Rattle.build_base.proofs.Steps.{map-passed}
use Rattle.std.proofs.lemmas.List.{map-append, append-nil, flat_map_more}
use Rattle.std.proofs.lemmas.List.Elements.{filter-append}
use Rattle.pcd_resolve.specs.Groups.{same_key, group, Grouped, GroupedAt}
use Rattle.pcd_resolve.specs.Additions.{named, AddsAt}
use Rattle.pcd_resolve.specs.NameFilter.{is_kept}

bytes_same : (xs ys : List ℕ) → bytes_eq xs ys ≡ true → xs ≡ ys
bytes_same xs ys e = same_text xs ys (sym e)

one_kept : {X : Type 0} (p : X → Bool) (x : X) (b : Bool) → p x ≡ b → filter p (x ∷ []) ≡ cond b (x ∷ []) []
one_kept p x true e = rw e refl
one_kept p x false e = rw e refl

picked : {V X : Type 0} (view : V → X) (old here : List V) (v : V) (p : X → Bool) (xs : List X) (b : Bool)
    → p (view v) ≡ b
    → (b ≡ true → map view here ≡ filter p xs)
    → (b ≡ false → map view old ≡ filter p xs)
    → map view (cond b (here ++ v ∷ []) old) ≡ filter p (xs ++ view v ∷ [])
picked view old here v p xs true e h o =
    map-append view here (v ∷ []) ∙ ap (λ ys. ys ++ view v ∷ []) (h refl)
    ∙ ap (λ ys. filter p xs ++ ys) (sym (one_kept p (view v) true e)) ∙ sym (filter-append p xs (view v ∷ []))
picked view old here v p xs false e h o =
    o refl ∙ sym (append-nil (filter p xs))
    ∙ ap (λ ys. filter p xs ++ ys) (sym (one_kept p (view v) false e)) ∙ sym (filter-append p xs (view v ∷ []))

pub grouped_more : {V X S : Type 0} (view : V → X) (name : X → List ℕ) (xs : List X) (v : V) (k : Vec ℕ) (old new : HashMap (Vec ℕ) (Vec V) S)
    → k.items ≡ name (view v)
    → ((q : Vec ℕ) → group new q ≡ cond (same_key k q) (group old k ++ v ∷ []) (group old q))
    → Grouped view name xs old → Grouped view name (xs ++ view v ∷ []) new
grouped_more view name xs v k old new named put h = λ q.
    let same : bytes_eq (name (view v)) q.items ≡ same_key k q = ap (λ n. bytes_eq n q.items) (sym named) in
    ap (map view) (put q)
    ∙ picked view (group old q) (group old k) v (λ x. bytes_eq (name x) q.items) xs (same_key k q) same
    (λ t. h k ∙ ap (λ n. filter (λ x. bytes_eq (name x) n) xs) (bytes_same k.items q.items t))
    (λ f. h q)

pub grouped_none : {V X S : Type 0} (view : V → X) (name : X → List ℕ) (table : HashMap (Vec ℕ) (Vec V) S) → table.entries ≡ [] → Grouped view name [] table
grouped_none view name table e = λ q. rw e refl

take_grown : {Y : Type 0} (ys : List Y) (i : ℕ) (y : Y) → i < length ys → y ≡ get_or ys i y → take (i + 1) ys ≡ take i ys ++ y ∷ []
take_grown ys i y h e = ap (λ n. take n ys) (add-one i) ∙ take-suc ys i y h ∙ ap (λ z. take i ys ++ z ∷ []) (sym e)

-- a loop that adds what each item gives
pub grown_by_one : {V X S Y : Type 0} (view : V → X) (name : X → List ℕ) (f : Y → X) (xs : List X) (ys : List Y) (i : ℕ) (y : Y) (t : HashMap (Vec ℕ) (Vec V) S)
    → i < length ys → y ≡ get_or ys i y → Grouped view name ((xs ++ map f (take i ys)) ++ f y ∷ []) t → Grouped view name (xs ++ map f (take (i + 1) ys)) t
grown_by_one view name f xs ys i y t h e g = λ q.
    g q ∙ ap (filter (λ x. bytes_eq (name x) q.items)) (append_assoc xs (map f (take i ys)) (f y ∷ []) ∙ ap (λ z. xs ++ z) (sym (map-passed f ys i y h e)))

pub grown_by_some : {V X S Y : Type 0} (view : V → X) (name : X → List ℕ) (f : Y → List X) (xs : List X) (ys : List Y) (i : ℕ) (y : Y) (t : HashMap (Vec ℕ) (Vec V) S)
    → i < length ys → y ≡ get_or ys i y → Grouped view name ((xs ++ flat_map f (take i ys)) ++ f y) t → Grouped view name (xs ++ flat_map f (take (i + 1) ys)) t
grown_by_some view name f xs ys i y t h e g = λ q.
    g q ∙ ap (filter (λ x. bytes_eq (name x) q.items)) (flat_map_more f xs (take i ys) y ∙ ap (λ z. xs ++ flat_map f z) (sym (take_grown ys i y h e)))

pub regrouped : {V X S : Type 0} (view : V → X) (name : X → List ℕ) (t : HashMap (Vec ℕ) (Vec V) S) (xs ys : List X) → xs ≡ ys → Grouped view name xs t → Grouped view name ys t
regrouped view name t xs ys e g = λ q. g q ∙ ap (λ zs. filter (λ x. bytes_eq (name x) q.items) zs) e

-- a name that is that of what is seen
pub named_so : {X : Type 0} (name : X → List ℕ) (k : List ℕ) (x y : X) → k ≡ name y → x ≡ y → k ≡ name x
named_so name k x y e same = e ∙ ap name (sym same)

-- the same of a table that has the lines of marked names alone
kept_so : (marks : List Bool) (x y : List ℕ) → x ≡ y → is_kept marks y ≡ true → is_kept marks x ≡ true
kept_so marks x y same e = ap (is_kept marks) same ∙ e

pub kept_more : {V X S : Type 0} (marks : List Bool) (view : V → X) (name : X → List ℕ) (xs : List X) (v : V) (k : Vec ℕ) (old new : HashMap (Vec ℕ) (Vec V) S)
    → k.items ≡ name (view v)
    → ((q : Vec ℕ) → group new q ≡ cond (same_key k q) (group old k ++ v ∷ []) (group old q))
    → GroupedAt marks view name xs old → GroupedAt marks view name (xs ++ view v ∷ []) new
kept_more marks view name xs v k old new named put h = λ q kept.
    let same : bytes_eq (name (view v)) q.items ≡ same_key k q = ap (λ n. bytes_eq n q.items) (sym named) in
    ap (map view) (put q)
    ∙ picked view (group old q) (group old k) v (λ x. bytes_eq (name x) q.items) xs (same_key k q) same
    (λ t. h k (kept_so marks k.items q.items (bytes_same k.items q.items t) kept) ∙ ap (λ n. filter (λ x. bytes_eq (name x) n) xs) (bytes_same k.items q.items t))
    (λ f. h q kept)

-- an item that a table has more at a key, by the key's name
pub adds_named : {V S : Type 0} (marks : List Bool) (name : List ℕ) (v : V) (k : Vec ℕ) (old new : HashMap (Vec ℕ) (Vec V) S)
    → k.items ≡ name
    → ((q : Vec ℕ) → group new q ≡ cond (same_key k q) (group old k ++ v ∷ []) (group old q))
    → AddsAt marks name v old new
adds_named marks name v k old new e put = λ q kept. put q ∙ ap (λ n. cond (bytes_eq n q.items) (named old n ++ v ∷ []) (group old q)) e

pub kept_added : {V X S : Type 0} (marks : List Bool) (view : V → X) (name : X → List ℕ) (xs : List X) (v : V) (old new : HashMap (Vec ℕ) (Vec V) S)
    → AddsAt marks (name (view v)) v old new → GroupedAt marks view name xs old → GroupedAt marks view name (xs ++ view v ∷ []) new
kept_added marks view name xs v old new put h = λ q kept.
    ap (map view) (put q kept)
    ∙ picked view (group old q) (named old (name (view v))) v (λ x. bytes_eq (name x) q.items) xs (bytes_eq (name (view v)) q.items) refl
    (λ t. ap (λ n. map view (named old n)) (bytes_same (name (view v)) q.items t) ∙ h q kept)
    (λ f. h q kept)

unkept : (marks : List Bool) (x y : List ℕ) (b : Bool) → bytes_eq x y ≡ b → is_kept marks x ≡ false → is_kept marks y ≡ true → b ≡ false
unkept marks x y false e off on = refl
unkept marks x y true e off on = let same : is_kept marks x ≡ true = kept_so marks x y (bytes_same x y e) on in absurd (true_false (sym same ∙ off))
  where
    true_false : true ≡ false → ⊥
    true_false e = cc

-- a line that nothing asks for is passed by
pub kept_passed : {V X S : Type 0} (marks : List Bool) (view : V → X) (name : X → List ℕ) (xs : List X) (x : X) (table : HashMap (Vec ℕ) (Vec V) S)
    → is_kept marks (name x) ≡ false → GroupedAt marks view name xs table → GroupedAt marks view name (xs ++ x ∷ []) table
kept_passed marks view name xs x table off h = λ q kept.
    let other : bytes_eq (name x) q.items ≡ false = unkept marks (name x) q.items (bytes_eq (name x) q.items) refl off kept in
    h q kept ∙ sym (append-nil (filter (λ y. bytes_eq (name y) q.items) xs))
    ∙ ap (λ ys. filter (λ y. bytes_eq (name y) q.items) xs ++ ys) (sym (one_kept (λ y. bytes_eq (name y) q.items) x false other))
    ∙ sym (filter-append (λ y. bytes_eq (name y) q.items) xs (x ∷ []))

-- an item that nothing asks for is passed by
pub adds_none : {V S : Type 0} (marks : List Bool) (name : List ℕ) (v : V) (table : HashMap (Vec ℕ) (Vec V) S) → is_kept marks name ≡ false → AddsAt marks name v table table
adds_none marks name v table off = λ q kept.
    ap (λ b. cond b (named table name ++ v ∷ []) (group table q)) (sym (unkept marks name q.items (bytes_eq name q.items) refl off kept))

pub kept_none : {V X S : Type 0} (marks : List Bool) (view : V → X) (name : X → List ℕ) (table : HashMap (Vec ℕ) (Vec V) S) → table.entries ≡ [] → GroupedAt marks view name [] table
kept_none marks view name table e = λ q kept. rw e refl

pub kept_by_one : {V X S Y : Type 0} (marks : List Bool) (view : V → X) (name : X → List ℕ) (f : Y → X) (xs : List X) (ys : List Y) (i : ℕ) (y : Y) (t : HashMap (Vec ℕ) (Vec V) S)
    → i < length ys → y ≡ get_or ys i y → GroupedAt marks view name ((xs ++ map f (take i ys)) ++ f y ∷ []) t → GroupedAt marks view name (xs ++ map f (take (i + 1) ys)) t
kept_by_one marks view name f xs ys i y t h e g = λ q kept.
    g q kept ∙ ap (filter (λ x. bytes_eq (name x) q.items)) (append_assoc xs (map f (take i ys)) (f y ∷ []) ∙ ap (λ z. xs ++ z) (sym (map-passed f ys i y h e)))

pub kept_by_some : {V X S Y : Type 0} (marks : List Bool) (view : V → X) (name : X → List ℕ) (f : Y → List X) (xs : List X) (ys : List Y) (i : ℕ) (y : Y) (t : HashMap (Vec ℕ) (Vec V) S)
    → i < length ys → y ≡ get_or ys i y → GroupedAt marks view name ((xs ++ flat_map f (take i ys)) ++ f y) t → GroupedAt marks view name (xs ++ flat_map f (take (i + 1) ys)) t
kept_by_some marks view name f xs ys i y t h e g = λ q kept.
    g q kept ∙ ap (filter (λ x. bytes_eq (name x) q.items)) (flat_map_more f xs (take i ys) y ∙ ap (λ z. xs ++ flat_map f z) (sym (take_grown ys i y h e)))

pub rekept : {V X S : Type 0} (marks : List Bool) (view : V → X) (name : X → List ℕ) (t : HashMap (Vec ℕ) (Vec V) S) (xs ys : List X) → xs ≡ ys → GroupedAt marks view name xs t → GroupedAt marks view name ys t
rekept marks view name t xs ys e g = λ q kept. g q kept ∙ ap (λ zs. filter (λ x. bytes_eq (name x) q.items) zs) e
