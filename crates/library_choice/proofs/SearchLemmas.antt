-- What the queue keeps, and what it ends with.
use Rattle.std.proofs.Common.{◌≡◌, ℕ, zero, suc, ◌+◌, ◌-◌, ◌<◌, ◌≤◌, Bool, true, false, List, [], ◌∷◌, ◌++◌, length, take, get_or, append-nil, refl, sym, ap, ◌∙◌, subst, arith}
use Rattle.std.specs.List.{flat_map}
use Rattle.std.proofs.lemmas.List.{take_all, take_at, take_more}
use Rattle.std.proofs.lemmas.List.Concat.{flat_map-append}
use Rattle.library_choice.specs.Found.{add, ends, found_in}
use Rattle.library_choice.specs.Search.{Same, AllIn, Closed, Prefix, grown, Going, Stands, Ended, Passed, Reason, First}
use Rattle.library_choice.proofs.FoundLemmas.{Prefix-trans, Prefix-length, Prefix-both, Prefix-take, take-Prefix, add_append, add-grows, AllIn-grown, add-skip, added, grown-mono, ends-grown, ends-up}

-- nothing but what was there and the starts
pub Going-start : {X : Type 0} (eq : X → X → Bool) (next : X → List X) (b starts : List X) → Closed eq next b → Going eq next b starts (add eq b starts) (length b)
unfolding grown
Going-start eq next b starts k =
    let p = add-grows eq b starts in
    let front : take (length b) (add eq b starts) ≡ b = ap (take (length b)) p.is ∙ take_at b p.more (length b) refl in
    record {
      within = Prefix-length b (add eq b starts) p;
      is = sym (ap (λ l. add eq (add eq b starts) (flat_map next l)) front ∙ add-skip eq (add eq b starts) (flat_map next b) (AllIn-grown eq b (add eq b starts) (flat_map next b) p k));
      grounded = subst (λ l. Prefix l (add eq b (ends next starts (length b)))) (sym front) (add-grows eq b (ends next starts (length b)));
    }

-- what is found so far is found by walks of one step more
pub Going-grounded : {X : Type 0} (eq : X → X → Bool) → Same eq → (next : X → List X) (b starts found : List X) (at : ℕ) → Closed eq next b → Going eq next b starts found at → Prefix found (add eq b (ends next starts (suc at)))
Going-grounded eq s next b starts found at k g =
    subst (λ l. Prefix l (add eq b (ends next starts (suc at)))) (sym g.is)
    (subst (λ l. Prefix (grown eq next b starts (take at found)) l) (sym (ends-grown eq s next b starts k at))
    (grown-mono eq next b starts (take at found) (add eq b (ends next starts at)) g.grounded))

-- the next of the queue is passed
pub Going-step : {X : Type 0} (eq : X → X → Bool) → Same eq → (next : X → List X) (b starts found : List X) (at : ℕ) (d : X) → Closed eq next b → Going eq next b starts found at → at < length found → Going eq next b starts (add eq found (next (get_or found at d))) (at + 1)
unfolding grown
Going-step eq s next b starts found at d k g h =
    let x = get_or found at d in
    let p = add-grows eq found (next x) in
    let front : take (at + 1) (add eq found (next x)) ≡ take (at + 1) found = take-Prefix (at + 1) found (add eq found (next x)) p (omega arith) in
    let one : flat_map next (take (at + 1) found) ≡ flat_map next (take at found) ++ next x =
    ap (flat_map next) (take_more found at d h) ∙ flat_map-append next (take at found) (x ∷ []) ∙ ap (λ l. flat_map next (take at found) ++ l) (append-nil (next x)) in
    let up : suc at ≡ at + 1 = omega arith in
    record {
      within = omega (arith, Prefix-length found (add eq found (next x)) p);
      is = ap (λ l. add eq l (next x)) g.is ∙ sym (add_append eq (add eq b starts) (flat_map next (take at found)) (next x)) ∙ ap (add eq (add eq b starts)) (sym one) ∙ ap (λ l. add eq (add eq b starts) (flat_map next l)) (sym front);
      grounded = subst (λ l. Prefix l (add eq b (ends next starts (at + 1)))) (sym front)
          (Prefix-trans (take (at + 1) found) found (add eq b (ends next starts (at + 1))) (Prefix-take (at + 1) found)
          (subst (λ n. Prefix found (add eq b (ends next starts n))) up (Going-grounded eq s next b starts found at k g)));
    }

inside-none : {X : Type 0} (eq : X → X → Bool) (next : X → List X) (b starts found : List X) → found ≡ grown eq next b starts found → Prefix (add eq b (ends next starts 0)) found
unfolding grown ends add
inside-none eq next b starts found e =
    subst (λ l. Prefix b l) (sym e) (Prefix-trans b (add eq b starts) (add eq (add eq b starts) (flat_map next found)) (add-grows eq b starts) (add-grows eq (add eq b starts) (flat_map next found)))

all-inside : {X : Type 0} (eq : X → X → Bool) → Same eq → (next : X → List X) (b starts found : List X) → Closed eq next b → found ≡ grown eq next b starts found → (n : ℕ) → Prefix (add eq b (ends next starts n)) found
all-inside eq s next b starts found k e zero = inside-none eq next b starts found e
all-inside eq s next b starts found k e (suc n) =
    subst (λ l. Prefix l found) (sym (ends-grown eq s next b starts k n))
    (subst (λ l. Prefix (grown eq next b starts (add eq b (ends next starts n))) l) (sym e)
    (grown-mono eq next b starts (add eq b (ends next starts n)) found (all-inside eq s next b starts found k e n)))

closed-end : {X : Type 0} (eq : X → X → Bool) → Same eq → (next : X → List X) (b starts found : List X) → found ≡ grown eq next b starts found → Closed eq next found
unfolding grown
closed-end eq s next b starts found e = subst (λ l. AllIn eq l (flat_map next found)) (sym e) (added eq s (add eq b starts) (flat_map next found))

pub Going-end : {X : Type 0} (eq : X → X → Bool) → Same eq → (next : X → List X) (b starts found : List X) (at : ℕ) → Closed eq next b → Going eq next b starts found at → at ≡ length found → Ended eq next b starts found
Going-end eq s next b starts found at k g e =
    let all : take at found ≡ found = take_all at found (omega arith) in
    let whole_is : found ≡ grown eq next b starts found = g.is ∙ ap (grown eq next b starts) all in
    let inside = all-inside eq s next b starts found k whole_is in
    record {
      begins = Prefix-trans b (add eq b (ends next starts 0)) found (add-grows eq b (ends next starts 0)) (inside 0);
      closed = closed-end eq s next b starts found whole_is;
      whole = λ n l. Prefix-both (add eq b (ends next starts n)) found (inside n)
          (Prefix-trans found (add eq b (ends next starts at)) (add eq b (ends next starts n)) (subst (λ l. Prefix l (add eq b (ends next starts at))) all g.grounded) (ends-up eq s next b starts k at (n - at) n (omega arith)));
    }

pub more-eq : {X : Type 0} (eq : X → X → Bool) → Same eq → (next : X → List X) (starts b found : List X) (at : ℕ) → Closed eq next b → Going eq next b starts found at → at ≤ 1024 → length found ≤ length (add eq b (ends next starts 1025))
more-eq eq s next starts b found at k g l =
    let p = Going-grounded eq s next b starts found at k g in
    let up = ends-up eq s next b starts k (suc at) (1024 - at) 1025 (omega (arith, l)) in
    omega (arith, Prefix-length found (add eq b (ends next starts (suc at))) p, Prefix-length (add eq b (ends next starts (suc at))) (add eq b (ends next starts 1025)) up)

pub many-first : {X : Type 0} (eq : X → X → Bool) → Same eq → (next : X → List X) (classes nulls found : List X) (at : ℕ) → Stands eq next [] classes found at → 1025 ≤ length found → 1025 ≤ length (found_in eq next classes nulls 1025)
unfolding found_in
many-first eq s next classes nulls found at g h =
    let q = subst (λ l. Prefix (add eq [] (ends next classes 1025)) l) (sym (add_append eq [] (ends next classes 1025) (ends next nulls 1025))) (add-grows eq (add eq [] (ends next classes 1025)) (ends next nulls 1025)) in
    omega (arith, h, more-eq eq s next classes [] found at tt g.going g.early, Prefix-length (add eq [] (ends next classes 1025)) (add eq [] (ends next classes 1025 ++ ends next nulls 1025)) q)

-- a queue came to a place, for a reason
abbrev pub Went : {X : Type 0} → (X → X → Bool) → (X → List X) → List X → List X → List X → Bool → Type 0
Went eq next b starts found few = (at : ℕ) × Stands eq next b starts found at × Reason few found at

-- a queue that begins from nothing
first-went : {X : Type 0} (eq : X → X → Bool) (next : X → List X) (classes start found : List X) (few : Bool) → start ≡ add eq [] classes → Passed eq next start 0 found few → Went eq next [] classes found few
first-went eq next classes start found few e p = p [] classes tt (subst (λ l. Stands eq next [] classes l 0) (sym e) (record { going = Going-start eq next [] classes tt; early = omega arith }))

pub first-many : {X : Type 0} (eq : X → X → Bool) → Same eq → (next : X → List X) (classes nulls found : List X) (few : Bool) → Went eq next [] classes found few → few ≡ false → 1025 ≤ length (found_in eq next classes nulls 1025)
first-many eq s next classes nulls found few g f = many-first eq s next classes nulls found g.0 g.1 (subst (λ v. Reason v found g.0) f g.2)

pub first-end : {X : Type 0} (eq : X → X → Bool) → Same eq → (next : X → List X) (classes found : List X) (at : ℕ) → Stands eq next [] classes found at → at ≡ length found → First eq next classes found
first-end eq s next classes found at g end = record { ended = Going-end eq s next [] classes found at tt g.going end; few = omega (arith, end, g.early) }

pub first-ended : {X : Type 0} (eq : X → X → Bool) → Same eq → (next : X → List X) (classes found : List X) (few : Bool) → Went eq next [] classes found few → few ≡ true → First eq next classes found
first-ended eq s next classes found few g f = first-end eq s next classes found g.0 g.1 (subst (λ v. Reason v found g.0) f g.2)

-- one queue that ended, from nothing
pub led-whole : {X : Type 0} (eq : X → X → Bool) → Same eq → (next : X → List X) (starts begun found : List X) (few : Bool) → begun ≡ add eq [] starts → Passed eq next begun 0 found few → few ≡ true → (n : ℕ) → 1024 ≤ n → add eq [] (ends next starts n) ≡ found
led-whole eq s next starts begun found few e p f n h =
    let g = first-ended eq s next starts found few (first-went eq next starts begun found few e p) f in
    g.ended.whole n (omega (arith, g.few, h))

pub led-many : {X : Type 0} (eq : X → X → Bool) → Same eq → (next : X → List X) (starts begun found : List X) (few : Bool) → begun ≡ add eq [] starts → Passed eq next begun 0 found few → few ≡ false → 1025 ≤ length (add eq [] (ends next starts 1025))
led-many eq s next starts begun found few e p f =
    let g = first-went eq next starts begun found few e p in
    omega (arith, more-eq eq s next starts [] found g.0 tt g.1.going g.1.early, subst (λ v. Reason v found g.0) f g.2)
