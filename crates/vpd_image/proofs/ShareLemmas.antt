-- When two stretches of bytes have one in common.
use Rattle.std.proofs.Common.{arith, ◌≡◌, ℕ, ◌<◌, ◌≤◌, Bool, true, false, ◌||◌, List, [], ◌∷◌, ◌++◌, refl, sym, ap, ◌∙◌}
use Rattle.std.specs.List.{AllByRecursion, list_any}
use Rattle.std.proofs.lemmas.Bool.Decides.{nat_tests}
use Rattle.std.proofs.lemmas.List.Folds.{list_any-append}
use Rattle.vpd_image.specs.declared.free_map.TakenRange.{TakenRange}
use Rattle.vpd_image.specs.Places.{Placed, share, shares, end_of}
use Rattle.vpd_image.specs.Rooms.{meets, AreLaid}

-- the other one ends before
pub share_before : (start end first last : ℕ) → last ≤ start → share start end first last ≡ false
unfolding share
share_before start end first last h = grind (arith, nat_tests)

-- the other one starts behind
pub share_behind : (start end first last : ℕ) → end ≤ first → share start end first last ≡ false
unfolding share
share_behind start end first last h = grind (arith, nat_tests)

pub share_some : (start end first last : ℕ) → start < end → first < last → start < last → first < end → share start end first last ≡ true
unfolding share
share_some start end first last a b c d = grind (arith, nat_tests)

pub share_longer : (start end more first last : ℕ) → end ≤ more → share start end first last ≡ true → share start more first last ≡ true
unfolding share
share_longer start end more first last l h = grind (arith, nat_tests, h)

pub share_not : (start end first last : ℕ) → start < last → first < last → start < end → share start end first last ≡ false → end ≤ first
unfolding share
share_not start end first last a b c h = grind (arith, nat_tests, h)

or_true : (a b : Bool) → b ≡ true → (a || b) ≡ true
or_true true b h = refl
or_true false b h = h

-- what is ended isn't met
pub ended_none : (start end : ℕ) (ss : List TakenRange) → AllByRecursion (λ s. s.end ≤ start) ss → list_any (meets start end) ss ≡ false
ended_none start end [] h = refl
ended_none start end (s ∷ ss) h = rw (share_before start end s.start s.end h.0) (ended_none start end ss h.1)

-- nor is what starts behind
pub behind_none : (start end at : ℕ) (ss : List TakenRange) → AreLaid at ss → end ≤ at → list_any (meets start end) ss ≡ false
unfolding AreLaid
behind_none start end at [] l h = refl
behind_none start end at (s ∷ ss) l h =
    let a : at ≤ s.start = l.0 in
    let b : s.start < s.end = l.1 in
    rw (share_behind start end s.start s.end (omega arith)) (behind_none start end s.end ss l.2 (omega arith))

first_longer : (start end more : ℕ) (p : Placed) (ps : List Placed) → end ≤ more → (b : Bool) → shares start end p ≡ b → list_any (shares start end) (p ∷ ps) ≡ true
    → (list_any (shares start end) ps ≡ true → list_any (shares start more) ps ≡ true) → list_any (shares start more) (p ∷ ps) ≡ true
first_longer start end more p ps l true e h rest = ap (λ b. b || list_any (shares start more) ps) (share_longer start end more p.offset (end_of p) l e)
first_longer start end more p ps l false e h rest = or_true (shares start more p) (list_any (shares start more) ps) (rest (ap (λ b. b || list_any (shares start end) ps) (sym e) ∙ h))

pub any_longer : (start end more : ℕ) (ps : List Placed) → end ≤ more → list_any (shares start end) ps ≡ true → list_any (shares start more) ps ≡ true
any_longer start end more [] l h = absurd cc
any_longer start end more (p ∷ ps) l h = first_longer start end more p ps l (shares start end p) refl h (any_longer start end more ps l)

pub any_more : (f : Placed → Bool) (ps : List Placed) (p : Placed) → list_any f ps ≡ true → list_any f (ps ++ p ∷ []) ≡ true
any_more f ps p h = list_any-append f ps (p ∷ []) ∙ ap (λ b. b || list_any f (p ∷ [])) h
