-- The queue's order is the order of walks.
use Rattle.std.proofs.Common.{◌||◌, ◌≡◌, ℕ, zero, suc, ◌+◌, ◌≤◌, Bool, true, false, cond, List, [], ◌∷◌, ◌++◌, length, take, drop, append_assoc, append-nil, length-append, refl, sym, ap, ◌∙◌, subst, arith}
use Rattle.std.specs.List.{flat_map}
use Rattle.std.proofs.lemmas.List.{take-append-le, nil_from_length, take-append-drop}
use Rattle.std.proofs.lemmas.List.Concat.{flat_map-append}
use Rattle.std.proofs.lemmas.List.Folds.{list_any-append}
use Rattle.library_choice.specs.Found.{is_in, put, add, ends}
use Rattle.library_choice.specs.Search.{Same, AllIn, Closed, Prefix, grown}

pub Prefix-trans : {X : Type 0} (a b c : List X) → Prefix a b → Prefix b c → Prefix a c
Prefix-trans a b c p q = record { more = p.more ++ q.more; is = q.is ∙ ap (λ l. l ++ q.more) p.is ∙ append_assoc a p.more q.more }

pub Prefix-self : {X : Type 0} (a : List X) → Prefix a a
Prefix-self a = record { more = []; is = sym (append-nil a) }

pub Prefix-length : {X : Type 0} (a b : List X) → Prefix a b → length a ≤ length b
Prefix-length a b p = omega (arith, ap length p.is, length-append a p.more)

pub Prefix-both : {X : Type 0} (a b : List X) → Prefix a b → Prefix b a → a ≡ b
Prefix-both a b p q =
    let n : p.more ≡ [] = nil_from_length p.more (omega (arith, ap length p.is, length-append a p.more, ap length q.is, length-append b q.more)) in
    sym (p.is ∙ ap (λ m. a ++ m) n ∙ append-nil a)

pub Prefix-take : {X : Type 0} (n : ℕ) (a : List X) → Prefix (take n a) a
Prefix-take n a = record { more = drop n a; is = sym (take-append-drop n a) }

pub take-Prefix : {X : Type 0} (n : ℕ) (a b : List X) → Prefix a b → n ≤ length a → take n b ≡ take n a
take-Prefix n a b p l = ap (take n) p.is ∙ take-append-le n a p.more l

put-cases : {X : Type 0} (b : List X) (x : X) (v : Bool) → Prefix b (cond v b (b ++ x ∷ []))
put-cases b x true = Prefix-self b
put-cases b x false = record { more = x ∷ []; is = refl }

pub add_append : {X : Type 0} (eq : X → X → Bool) (b xs ys : List X) → add eq b (xs ++ ys) ≡ add eq (add eq b xs) ys
unfolding add
add_append eq b [] ys = refl
add_append eq b (x ∷ xs) ys = add_append eq (put eq b x) xs ys

pub add-grows : {X : Type 0} (eq : X → X → Bool) (b xs : List X) → Prefix b (add eq b xs)
unfolding add
add-grows eq b [] = Prefix-self b
add-grows eq b (x ∷ xs) = Prefix-trans b (put eq b x) (add eq (put eq b x) xs) (put-cases b x (is_in eq b x)) (add-grows eq (put eq b x) xs)

in-grown : {X : Type 0} (eq : X → X → Bool) (a b : List X) (x : X) → Prefix a b → is_in eq a x ≡ true → is_in eq b x ≡ true
in-grown eq a b x p h = ap (λ l. is_in eq l x) p.is ∙ list_any-append (λ y. eq y x) a p.more ∙ ap (λ v. v || is_in eq p.more x) h

pub AllIn-grown : {X : Type 0} (eq : X → X → Bool) (a b xs : List X) → Prefix a b → AllIn eq a xs → AllIn eq b xs
AllIn-grown eq a b [] p h = tt
AllIn-grown eq a b (x ∷ xs) p h = (in-grown eq a b x p h.0, AllIn-grown eq a b xs p h.1)

pub add-skip : {X : Type 0} (eq : X → X → Bool) (b xs : List X) → AllIn eq b xs → add eq b xs ≡ b
unfolding add
add-skip eq b [] h = refl
add-skip eq b (x ∷ xs) h = ap (λ v. add eq (cond v b (b ++ x ∷ [])) xs) h.0 ∙ add-skip eq b xs h.1

or-true : (v : Bool) → v || true ≡ true
or-true true = refl
or-true false = refl

in-put : {X : Type 0} (eq : X → X → Bool) → Same eq → (b : List X) (x : X) (v : Bool) → is_in eq b x ≡ v → is_in eq (cond v b (b ++ x ∷ [])) x ≡ true
in-put eq s b x true e = e
in-put eq s b x false e = list_any-append (λ y. eq y x) b (x ∷ []) ∙ ap (λ v. is_in eq b x || (v || false)) (s.itself x) ∙ or-true (is_in eq b x)

pub added : {X : Type 0} (eq : X → X → Bool) → Same eq → (b xs : List X) → AllIn eq (add eq b xs) xs
unfolding add
added eq s b [] = tt
added eq s b (x ∷ xs) = (in-grown eq (put eq b x) (add eq (put eq b x) xs) x (add-grows eq (put eq b x) xs) (in-put eq s b x (is_in eq b x) refl), added eq s (put eq b x) xs)

next-in-cons : {X : Type 0} (eq : X → X → Bool) → Same eq → (next : X → List X) (c : List X) (z : X) (zs : List X) (y : X) (v : Bool) → eq z y ≡ v → (v || is_in eq zs y) ≡ true → (is_in eq zs y ≡ true → AllIn eq (add eq (add eq c (next z)) (flat_map next zs)) (next y)) → AllIn eq (add eq c (next z ++ flat_map next zs)) (next y)
next-in-cons eq s next c z zs y true e h ih =
    let there : AllIn eq (add eq c (next z)) (next z) = added eq s c (next z) in
    let whole : AllIn eq (add eq (add eq c (next z)) (flat_map next zs)) (next z) = AllIn-grown eq (add eq c (next z)) (add eq (add eq c (next z)) (flat_map next zs)) (next z) (add-grows eq (add eq c (next z)) (flat_map next zs)) there in
    subst (λ l. AllIn eq l (next y)) (sym (add_append eq c (next z) (flat_map next zs))) (subst (λ w. AllIn eq (add eq (add eq c (next z)) (flat_map next zs)) (next w)) (s.same z y e) whole)
next-in-cons eq s next c z zs y false e h ih = subst (λ l. AllIn eq l (next y)) (sym (add_append eq c (next z) (flat_map next zs))) (ih h)

-- the nexts of one that is there are added
next-in : {X : Type 0} (eq : X → X → Bool) → Same eq → (next : X → List X) (c b : List X) (y : X) → is_in eq b y ≡ true → AllIn eq (add eq c (flat_map next b)) (next y)
next-in eq s next c [] y h = absurd (cc)
next-in eq s next c (z ∷ zs) y h = next-in-cons eq s next c z zs y (eq z y) refl h (next-in eq s next (add eq c (next z)) zs y)

skip-again : {X : Type 0} (eq : X → X → Bool) → Same eq → (next : X → List X) (c b ys : List X) (y : X) → is_in eq b y ≡ true → add eq c (flat_map next (b ++ ys)) ≡ add eq c (flat_map next (b ++ y ∷ ys))
skip-again eq s next c b ys y h =
    let passed : List _ = add eq c (flat_map next b) in
    ap (add eq c) (flat_map-append next b ys) ∙ add_append eq c (flat_map next b) (flat_map next ys)
    ∙ ap (λ l. add eq l (flat_map next ys)) (sym (add-skip eq (add eq c (flat_map next b)) (next y) (next-in eq s next c b y h)))
    ∙ sym (add_append eq (add eq c (flat_map next b)) (next y) (flat_map next ys))
    ∙ sym (add_append eq c (flat_map next b) (next y ++ flat_map next ys))
    ∙ ap (add eq c) (sym (flat_map-append next b (y ∷ ys)))

put-step : {X : Type 0} (eq : X → X → Bool) → Same eq → (next : X → List X) (c b ys : List X) (y : X) (v : Bool) → is_in eq b y ≡ v → add eq c (flat_map next (cond v b (b ++ y ∷ []) ++ ys)) ≡ add eq c (flat_map next (b ++ y ∷ ys))
put-step eq s next c b ys y true e = skip-again eq s next c b ys y e
put-step eq s next c b ys y false e = ap (λ l. add eq c (flat_map next l)) (append_assoc b (y ∷ []) ys)

-- the nexts of a repeat add nothing
pub once : {X : Type 0} (eq : X → X → Bool) → Same eq → (next : X → List X) (c b ys : List X) → add eq c (flat_map next (add eq b ys)) ≡ add eq c (flat_map next (b ++ ys))
unfolding add
once eq s next c b [] = ap (λ l. add eq c (flat_map next l)) (sym (append-nil b))
once eq s next c b (y ∷ ys) = once eq s next c (put eq b y) ys ∙ put-step eq s next c b ys y (is_in eq b y) refl

pub grown-mono : {X : Type 0} (eq : X → X → Bool) (next : X → List X) (b starts f g : List X) → Prefix f g → Prefix (grown eq next b starts f) (grown eq next b starts g)
unfolding grown
grown-mono eq next b starts f g p =
    let c : List _ = add eq b starts in
    let e : add eq (add eq b starts) (flat_map next g) ≡ add eq (add eq (add eq b starts) (flat_map next f)) (flat_map next p.more) =
    ap (λ l. add eq (add eq b starts) (flat_map next l)) p.is ∙ ap (add eq (add eq b starts)) (flat_map-append next f p.more) ∙ add_append eq (add eq b starts) (flat_map next f) (flat_map next p.more) in
    subst (λ l. Prefix (add eq (add eq b starts) (flat_map next f)) l) (sym e) (add-grows eq (add eq (add eq b starts) (flat_map next f)) (flat_map next p.more))

-- one more step of all walks
pub ends-grown : {X : Type 0} (eq : X → X → Bool) → Same eq → (next : X → List X) (b starts : List X) → Closed eq next b → (n : ℕ) → add eq b (ends next starts (suc n)) ≡ grown eq next b starts (add eq b (ends next starts n))
unfolding grown ends
ends-grown eq s next b starts k n =
    add_append eq b starts (flat_map next (ends next starts n))
    ∙ ap (λ l. add eq l (flat_map next (ends next starts n))) (sym (add-skip eq (add eq b starts) (flat_map next b) (AllIn-grown eq b (add eq b starts) (flat_map next b) (add-grows eq b starts) k)))
    ∙ sym (add_append eq (add eq b starts) (flat_map next b) (flat_map next (ends next starts n)))
    ∙ ap (add eq (add eq b starts)) (sym (flat_map-append next b (ends next starts n)))
    ∙ sym (once eq s next (add eq b starts) b (ends next starts n))

ends-first : {X : Type 0} (eq : X → X → Bool) (next : X → List X) (b starts : List X) → Prefix (add eq b (ends next starts 0)) (add eq b (ends next starts 1))
unfolding ends add
ends-first eq next b starts = add-grows eq b (starts ++ [])

ends-up-one : {X : Type 0} (eq : X → X → Bool) → Same eq → (next : X → List X) (b starts : List X) → Closed eq next b → (n : ℕ) → Prefix (add eq b (ends next starts n)) (add eq b (ends next starts (suc n)))
ends-up-one eq s next b starts k zero = ends-first eq next b starts
ends-up-one eq s next b starts k (suc n) =
    let ih = ends-up-one eq s next b starts k n in
    let m = grown-mono eq next b starts (add eq b (ends next starts n)) (add eq b (ends next starts (suc n))) ih in
    subst (λ l. Prefix l (add eq b (ends next starts (suc (suc n))))) (sym (ends-grown eq s next b starts k n))
    (subst (λ l. Prefix (grown eq next b starts (add eq b (ends next starts n))) l) (sym (ends-grown eq s next b starts k (suc n))) m)

pub ends-up : {X : Type 0} (eq : X → X → Bool) → Same eq → (next : X → List X) (b starts : List X) → Closed eq next b → (n d m : ℕ) → n + d ≡ m → Prefix (add eq b (ends next starts n)) (add eq b (ends next starts m))
ends-up eq s next b starts k n zero m e = let h : n ≡ m = omega arith in subst (λ j. Prefix (add eq b (ends next starts n)) (add eq b (ends next starts j))) h (Prefix-self (add eq b (ends next starts n)))
ends-up eq s next b starts k n (suc d) m e =
    let h : suc (n + d) ≡ m = omega arith in
    subst (λ j. Prefix (add eq b (ends next starts n)) (add eq b (ends next starts j))) h
    (Prefix-trans (add eq b (ends next starts n)) (add eq b (ends next starts (n + d))) (add eq b (ends next starts (suc (n + d)))) (ends-up eq s next b starts k n d (n + d) refl) (ends-up-one eq s next b starts k (n + d)))
