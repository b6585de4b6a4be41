-- The ends are those of the walks, and these ascend.
use Rattle.std.proofs.Common.{◌≡◌, inl, inr, ℕ, zero, suc, ◌+◌, ◌<◌, ◌≤◌, List, [], ◌∷◌, ◌++◌, length, map, get_or, length-append, refl, sym, ap, ◌∙◌, subst, arith}
use Rattle.std.specs.List.{flat_map}
use Rattle.std.proofs.lemmas.List.{map-append}
use Rattle.library_choice.specs.Found.{ends}
use Rattle.library_choice.specs.Walks.{Walk, steps_from, longer, walks, Less, Before, Each, Ascending, IsWalk, first, onward, Among}

steps-last : {X : Type 0} (k : ℕ) (ps : List ℕ) (xs : List X) → map (λ (w : Walk X). w.last) (steps_from k ps xs) ≡ xs
steps-last k ps [] = refl
steps-last k ps (x ∷ xs) = ap (λ l. x ∷ l) (steps-last (suc k) ps xs)

longer-last : {X : Type 0} (next : X → List X) (ws : List (Walk X)) → map (λ (w : Walk X). w.last) (flat_map (longer next) ws) ≡ flat_map next (map (λ (w : Walk X). w.last) ws)
longer-last next [] = refl
longer-last {X} next (w ∷ ws) =
    map-append (λ (v : Walk X). v.last) (longer next w) (flat_map (longer next) ws)
    ∙ ap (λ l. l ++ map (λ (v : Walk X). v.last) (flat_map (longer next) ws)) (steps-last 0 w.places (next w.last))
    ∙ ap (λ l. next w.last ++ l) (longer-last next ws)

pub walks-ends : {X : Type 0} (next : X → List X) (starts : List X) (n : ℕ) → map (λ (w : Walk X). w.last) (walks next starts n) ≡ ends next starts n
unfolding walks ends
walks-ends next starts zero = refl
walks-ends {X} next starts (suc n) =
    map-append (λ (v : Walk X). v.last) (steps_from 0 [] starts) (flat_map (longer next) (walks next starts n))
    ∙ ap (λ l. l ++ map (λ (v : Walk X). v.last) (flat_map (longer next) (walks next starts n))) (steps-last 0 [] starts)
    ∙ ap (λ l. starts ++ l) (longer-last next (walks next starts n) ∙ ap (flat_map next) (walks-ends next starts n))

each-append : {A : Type 0} (P : A → Type 0) (xs ys : List A) → Each P xs → Each P ys → Each P (xs ++ ys)
each-append P [] ys p q = q
each-append P (x ∷ xs) ys p q = (p.0, each-append P xs ys p.1 q)

each-steps : {X : Type 0} (P : Walk X → Type 0) (ps : List ℕ) (k : ℕ) (xs : List X) → ((j : ℕ) (x : X) → k ≤ j → P (record { places = ps ++ j ∷ []; last = x })) → Each P (steps_from k ps xs)
each-steps P ps k [] h = tt
each-steps P ps k (x ∷ xs) h = (h k x (omega arith), each-steps P ps (suc k) xs (λ j y l. h j y (omega arith)))

ascending-append : {A : Type 0} (R : A → A → Type 0) (xs ys : List A) → Ascending R xs → Ascending R ys → Each (λ x. Each (R x) ys) xs → Ascending R (xs ++ ys)
ascending-append R [] ys a b h = b
ascending-append R (x ∷ xs) ys a b h = (each-append (R x) xs ys a.0 h.0, ascending-append R xs ys a.1 b h.1)

less-last : (ps : List ℕ) (i j : ℕ) → i < j → Less (ps ++ i ∷ []) (ps ++ j ∷ [])
less-last [] i j h = inl h
less-last (p ∷ ps) i j h = inr (refl, less-last ps i j h)

less-longer : (ps qs : List ℕ) (i j : ℕ) → Less ps qs → Less (ps ++ i ∷ []) (qs ++ j ∷ [])
less-longer [] qs i j h = absurd h
less-longer (p ∷ ps) [] i j h = absurd h
less-longer (p ∷ ps) (q ∷ qs) i j (inl h) = inl h
less-longer (p ∷ ps) (q ∷ qs) i j (inr h) = inr (h.0, less-longer ps qs i j h.1)

before-longer : {X : Type 0} (v w : Walk X) (i j : ℕ) (x y : X) → Before v w → Before (record { places = v.places ++ i ∷ []; last = x }) (record { places = w.places ++ j ∷ []; last = y })
before-longer v w i j x y (inl h) = inl (omega (arith, length-append v.places (i ∷ []), length-append w.places (j ∷ []), h))
before-longer v w i j x y (inr h) = inr (omega (arith, length-append v.places (i ∷ []), length-append w.places (j ∷ []), h.0), less-longer v.places w.places i j h.1)

steps-ascend : {X : Type 0} (k : ℕ) (ps : List ℕ) (xs : List X) → Ascending (Before {X = X}) (steps_from k ps xs)
steps-ascend k ps [] = tt
steps-ascend {X} k ps (x ∷ xs) = (
  each-steps (Before (record { places = ps ++ k ∷ []; last = x })) ps (suc k) xs
      (λ j y l. inr (omega (arith, length-append ps (k ∷ []), length-append ps (j ∷ [])), less-last ps k j (omega arith))),
  steps-ascend (suc k) ps xs,
)

step-before : {X : Type 0} (next : X → List X) (v : Walk X) (i : ℕ) (x : X) (ws : List (Walk X)) → Each (Before v) ws → Each (Before (record { places = v.places ++ i ∷ []; last = x })) (flat_map (longer next) ws)
step-before next v i x [] h = tt
step-before next v i x (w ∷ ws) h =
    each-append (Before (record { places = v.places ++ i ∷ []; last = x })) (longer next w) (flat_map (longer next) ws)
    (each-steps (Before (record { places = v.places ++ i ∷ []; last = x })) w.places 0 (next w.last) (λ j y l. before-longer v w i j x y h.0))
    (step-before next v i x ws h.1)

longer-ascend : {X : Type 0} (next : X → List X) (ws : List (Walk X)) → Ascending (Before {X = X}) ws → Ascending (Before {X = X}) (flat_map (longer next) ws)
longer-ascend next [] h = tt
longer-ascend {X} next (w ∷ ws) h =
    ascending-append (Before {X = X}) (longer next w) (flat_map (longer next) ws) (steps-ascend 0 w.places (next w.last)) (longer-ascend next ws h.1)
    (each-steps (λ a. Each (Before a) (flat_map (longer next) ws)) w.places 0 (next w.last) (λ j y l. step-before next w j y ws h.0))

-- a walk of one step comes before what is one step longer than another
start-before : {X : Type 0} (next : X → List X) (i : ℕ) (x : X) (ws : List (Walk X)) → Each (λ (w : Walk X). 0 < length w.places) ws → Each (Before (record { places = i ∷ []; last = x })) (flat_map (longer next) ws)
start-before next i x [] h = tt
start-before next i x (w ∷ ws) h =
    each-append (Before (record { places = i ∷ []; last = x })) (longer next w) (flat_map (longer next) ws)
    (each-steps (Before (record { places = i ∷ []; last = x })) w.places 0 (next w.last) (λ j y l. inl (omega (arith, length-append w.places (j ∷ []), h.0))))
    (start-before next i x ws h.1)

longer-long : {X : Type 0} (next : X → List X) (ws : List (Walk X)) → Each (λ (w : Walk X). 0 < length w.places) (flat_map (longer next) ws)
longer-long next [] = tt
longer-long {X} next (w ∷ ws) = each-append (λ (v : Walk X). 0 < length v.places) (longer next w) (flat_map (longer next) ws)
    (each-steps (λ (v : Walk X). 0 < length v.places) w.places 0 (next w.last) (λ j y l. omega (arith, length-append w.places (j ∷ []))))
    (longer-long next ws)

walks-long : {X : Type 0} (next : X → List X) (starts : List X) (n : ℕ) → Each (λ (w : Walk X). 0 < length w.places) (walks next starts n)
unfolding walks
walks-long next starts zero = tt
walks-long {X} next starts (suc n) = each-append (λ (v : Walk X). 0 < length v.places) (steps_from 0 [] starts) (flat_map (longer next) (walks next starts n))
    (each-steps (λ (v : Walk X). 0 < length v.places) [] 0 starts (λ j y l. omega arith)) (longer-long next (walks next starts n))

-- the walks of 1 to n steps stand in their order
pub walks-ascend : {X : Type 0} (next : X → List X) (starts : List X) (n : ℕ) → Ascending (Before {X = X}) (walks next starts n)
unfolding walks
walks-ascend next starts zero = tt
walks-ascend {X} next starts (suc n) =
    ascending-append (Before {X = X}) (steps_from 0 [] starts) (flat_map (longer next) (walks next starts n)) (steps-ascend 0 [] starts) (longer-ascend next (walks next starts n) (walks-ascend next starts n))
    (each-steps (λ a. Each (Before a) (flat_map (longer next) (walks next starts n))) [] 0 starts (λ j y l. start-before next j y (walks next starts n) (walks-long next starts n)))

among-left : {A : Type 0} (xs ys : List A) (a : A) → Among xs a → Among (xs ++ ys) a
among-left [] ys a h = absurd h
among-left (x ∷ xs) ys a (inl e) = inl e
among-left (x ∷ xs) ys a (inr h) = inr (among-left xs ys a h)

among-right : {A : Type 0} (xs ys : List A) (a : A) → Among ys a → Among (xs ++ ys) a
among-right [] ys a h = h
among-right (x ∷ xs) ys a h = inr (among-right xs ys a h)

among-flat : {A B : Type 0} (f : A → List B) (xs : List A) (a : A) (b : B) → Among xs a → Among (f a) b → Among (flat_map f xs) b
among-flat f [] a b h g = absurd h
among-flat {A} {B} f (x ∷ xs) a b (inl e) g = among-left (f x) (flat_map f xs) b (subst (λ (c : A). Among (f c) b) (sym e) g)
among-flat f (x ∷ xs) a b (inr h) g = among-right (f x) (flat_map f xs) b (among-flat f xs a b h g)

step-same : {X : Type 0} (ps : List ℕ) (i j : ℕ) (y x : X) → i ≡ j → y ≡ x → ◌≡◌ {A = Walk X} (record { places = ps ++ i ∷ []; last = y }) (record { places = ps ++ j ∷ []; last = x })
step-same ps i j y x a b = cc

among-steps : {X : Type 0} (ps : List ℕ) (i : ℕ) (xs : List X) (k : ℕ) (x : X) → k < length xs → get_or xs k x ≡ x → Among (steps_from i ps xs) (record { places = ps ++ (i + k) ∷ []; last = x })
among-steps ps i [] k x h e = absurd (omega arith)
among-steps {X} ps i (y ∷ ys) zero x h e = let z : i ≡ i + 0 = omega arith in inl (step-same ps i (i + 0) y x z e)
among-steps {X} ps i (y ∷ ys) (suc k) x h e =
    let z : suc i + k ≡ i + suc k = omega arith in
    inr (subst (λ (j : ℕ). Among (steps_from (suc i) ps ys) (record { places = ps ++ j ∷ []; last = x })) z (among-steps ps (suc i) ys k x (omega arith) e))

first-there : {X : Type 0} (next : X → List X) (starts : List X) (k : ℕ) (x : X) → k < length starts → get_or starts k x ≡ x → (n : ℕ) → 0 < n → Among (walks next starts n) (record { places = k ∷ []; last = x })
unfolding walks
first-there next starts k x h e zero l = absurd (omega arith)
first-there next starts k x h e (suc n) l =
    let z : 0 + k ≡ k = omega arith in
    among-left (steps_from 0 [] starts) (flat_map (longer next) (walks next starts n)) (record { places = k ∷ []; last = x })
    (subst (λ (j : ℕ). Among (steps_from 0 [] starts) (record { places = j ∷ []; last = x })) z (among-steps [] 0 starts k x h e))

onward-there : {X : Type 0} (next : X → List X) (starts : List X) (v : Walk X) (k : ℕ) (x : X) → k < length (next v.last) → get_or (next v.last) k x ≡ x → (n : ℕ) → length v.places + 1 ≤ n → ((m : ℕ) → length v.places ≤ m → Among (walks next starts m) v) → Among (walks next starts n) (record { places = v.places ++ k ∷ []; last = x })
unfolding walks
onward-there next starts v k x h e zero l there = absurd (omega arith)
onward-there next starts v k x h e (suc n) l there =
    let z : 0 + k ≡ k = omega arith in
    among-right (steps_from 0 [] starts) (flat_map (longer next) (walks next starts n)) (record { places = v.places ++ k ∷ []; last = x })
    (among-flat (longer next) (walks next starts n) v (record { places = v.places ++ k ∷ []; last = x }) (there n (omega arith))
    (subst (λ (j : ℕ). Among (longer next v) (record { places = v.places ++ j ∷ []; last = x })) z (among-steps v.places 0 (next v.last) k x h e)))

-- each walk of at most n steps is there
pub walks-whole : {X : Type 0} (next : X → List X) (starts : List X) (w : Walk X) → IsWalk next starts w → (n : ℕ) → length w.places ≤ n → Among (walks next starts n) w
walks-whole next starts w (first k x h e) n l = first-there next starts k x h e n (omega (arith, l))
walks-whole next starts w (onward v k x i h e) n l =
    onward-there next starts v k x h e n (omega (arith, l, length-append v.places (k ∷ []))) (λ m b. walks-whole next starts v i m b)
