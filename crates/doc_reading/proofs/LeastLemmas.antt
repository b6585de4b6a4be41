-- The least of some faults.
use Rattle.std.proofs.Common.{◌≡◌, ◌∙◌, ℕ, ◌+◌, ◌<◌, nat_lt, Bool, true, false, if◌then◌else◌, List, [], ◌∷◌, ◌++◌, length, get_or, take, map, Option, Some, None, refl, sym, ap, arith}
use Rattle.std.proofs.lemmas.Bool.Decides.{nat_tests}
use Rattle.std.proofs.lemmas.List.{map-append, take_more}
use Rattle.build_base.specs.declared.fault.Fault.{Fault}
use Rattle.doc_reading.specs.Least.{lesser, least_of}

pub lesser_none : (fault : Option Fault) → lesser fault None ≡ fault
lesser_none None = refl
lesser_none (Some fault) = refl

-- the tests of three codes
below_below : (a b c : ℕ) → nat_lt b a ≡ true → nat_lt c b ≡ true → nat_lt c a ≡ true
below_below a b c p q = grind (arith, nat_tests)

above_above : (a b c : ℕ) → nat_lt b a ≡ false → nat_lt c b ≡ false → nat_lt c a ≡ false
above_above a b c p q = grind (arith, nat_tests)

on_left : (t : Bool) (a b c : Fault) → lesser (if t then Some b else Some a) (Some c) ≡ (if t then lesser (Some b) (Some c) else lesser (Some a) (Some c))
on_left true a b c = refl
on_left false a b c = refl

on_right : (t : Bool) (a b c : Fault) → lesser (Some a) (if t then Some c else Some b) ≡ (if t then lesser (Some a) (Some c) else lesser (Some a) (Some b))
on_right true a b c = refl
on_right false a b c = refl

by_tests : {T : Type 0} (s t u : Bool) (a b c : T) → (s ≡ true → t ≡ true → u ≡ true) → (s ≡ false → t ≡ false → u ≡ false)
    → (if s then (if t then c else b) else (if u then c else a)) ≡ (if t then (if u then c else a) else (if s then b else a))
by_tests true true u a b c both neither = rw (both refl refl) refl
by_tests true false u a b c both neither = refl
by_tests false true u a b c both neither = refl
by_tests false false u a b c both neither = rw (neither refl refl) refl

lesser_assoc : (f g h : Option Fault) → lesser (lesser f g) h ≡ lesser f (lesser g h)
lesser_assoc None g h = refl
lesser_assoc (Some a) None h = refl
lesser_assoc (Some a) (Some b) None = lesser_none (lesser (Some a) (Some b))
lesser_assoc (Some a) (Some b) (Some c) =
    on_left (nat_lt b.code a.code) a b c
    ∙ by_tests (nat_lt b.code a.code) (nat_lt c.code b.code) (nat_lt c.code a.code) (Some a) (Some b) (Some c) (below_below a.code b.code c.code) (above_above a.code b.code c.code)
    ∙ sym (on_right (nat_lt c.code b.code) a b c)

pub least_push : (fs : List (Option Fault)) (f : Option Fault) → least_of (fs ++ f ∷ []) ≡ lesser (least_of fs) f
least_push [] f = lesser_none f
least_push (g ∷ fs) f = ap (lesser g) (least_push fs f) ∙ sym (lesser_assoc g (least_of fs) f)

-- with one more
pub least_more : {X : Type 0} (fault : X → Option Fault) (first : Option Fault) (xs : List X) (i : ℕ) (d : X) → i < length xs
    → lesser (lesser first (least_of (map fault (take i xs)))) (fault (get_or xs i d)) ≡ lesser first (least_of (map fault (take (i + 1) xs)))
least_more fault first xs i d h =
    lesser_assoc first (least_of (map fault (take i xs))) (fault (get_or xs i d))
    ∙ ap (lesser first) (sym (ap (λ ys. least_of (map fault ys)) (take_more xs i d h) ∙ ap least_of (map-append fault (take i xs) (get_or xs i d ∷ [])) ∙ least_push (map fault (take i xs)) (fault (get_or xs i d))))
