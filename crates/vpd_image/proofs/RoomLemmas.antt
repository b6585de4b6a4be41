-- What a room holds.
use Rattle.std.proofs.Common.{arith, subst, ◌≡◌, ℕ, zero, suc, ◌+◌, ◌*◌, ◌<◌, ◌≤◌, max, not, Bool, true, false, ◌||◌, cond, List, [], ◌∷◌, ◌++◌, length, take, drop, get_or, refl, sym, ap, ◌∙◌}
use Rattle.std.specs.Prelude.{nat_lt, nat_le, slice_index_or}
use Rattle.std.specs.Int.{div_ceil}
use Rattle.std.specs.List.{AllByRecursion, AllWithin, insert, list_any}
use Rattle.std.specs.List.Sorted.{IsNonDecreasingBy}
use Rattle.std.proofs.Math.Nat.{mul-le-mul_left, mul-le-mul_right}
use Rattle.std.proofs.lemmas.Bool.Decides.{nat_tests}
use Rattle.std.proofs.lemmas.Grind.{div_ceil_times}
use Rattle.build_base.proofs.Steps.{head_drop}
use Rattle.std.proofs.lemmas.List.{drop_all, get_or-take, get_or-drop, take-append-drop, length-drop, length-take}
use native.Mathlib.Numerals.{unary_clauses}
use Rattle.std.proofs.lemmas.List.Elements.{recursion_from_All}
use Rattle.std.proofs.lemmas.List.Folds.{list_any-append}
use Rattle.std.proofs.lemmas.List.Sorted.{IsNonDecreasingBy-from_all_adjacent}
use Rattle.doc_types.specs.declared.pcd.Datum.{Datum}
use Rattle.doc_types.specs.declared.pcd.Datum.TheVariants.{U8, U16, U32, U64, Boolean, Void}
use Rattle.doc_types.specs.declared.values.PcdRow.{PcdRow}
use Rattle.vpd_image.specs.declared.free_map.FreeMap.{FreeMap}
use Rattle.vpd_image.specs.declared.free_map.TakenRange.{TakenRange}
use Rattle.vpd_image.specs.Places.{Placed, share, shares, end_of, size_of, is_free, greatest_end, first_from, least_place, align_of, size_by}
use Rattle.vpd_image.specs.Rooms.{meets, AreLaid, AreBelow, first_multiple, slot, low_of, least_size, room_limit, IsNext, Holds}
use Rattle.vpd_image.proofs.ShareLemmas.{share_before, share_behind, share_some, share_not, ended_none, behind_none, any_longer, any_more}

-- the ends of stretches rise
next_end : (at : ℕ) (ss : List TakenRange) → AreLaid at ss → (k : ℕ) (d : TakenRange) → k + 1 < length ss → (get_or ss k d).end ≤ (get_or ss (k + 1) d).end
unfolding AreLaid
next_end at [] l k d h = absurd (omega (arith, h))
next_end at (s ∷ []) l k d h = absurd (omega (arith, h))
next_end at (s ∷ t ∷ ss) l zero d h = omega (arith, l.2.0, l.2.1)
next_end at (s ∷ t ∷ ss) l (suc k) d h = simp unary_clauses (simp unary_clauses at (next_end s.end (t ∷ ss) l.2 k d (omega (arith, h))))

pub ends_rise : (ss : List TakenRange) → AreLaid 0 ss → IsNonDecreasingBy (λ s. s.end) ss
ends_rise ss l = IsNonDecreasingBy-from_all_adjacent (λ s. s.end) ss (next_end 0 ss l)

pub all_passed : (P : TakenRange → Type 0) (ss : List TakenRange) (i : ℕ) → AllWithin P ss 0 i → AllByRecursion P (take i ss)
all_passed P ss i h = recursion_from_All P (take i ss) (λ k d lt. let below : k < i = omega (arith, length-take i ss, lt) in rw (get_or-take i ss k d below) (h k d (omega arith) below))

pub all_left : (P : TakenRange → Type 0) (ss : List TakenRange) (i : ℕ) → i ≤ length ss → AllWithin P ss i (length ss) → AllByRecursion P (drop i ss)
all_left P ss i w h = recursion_from_All P (drop i ss) (λ k d lt. let below : i + k < length ss = omega (arith, length-drop i ss, w, lt) in rw (get_or-drop i ss k d) (h (i + k) d (omega arith) below))

pub laid_weaker : (a b : ℕ) (ss : List TakenRange) → a ≤ b → AreLaid b ss → AreLaid a ss
unfolding AreLaid
laid_weaker a b [] h l = tt
laid_weaker a b (s ∷ ss) h l = (omega (arith, l.0), l.1, l.2)

pub laid_drop : (at i : ℕ) (ss : List TakenRange) → AreLaid at ss → AreLaid 0 (drop i ss)
unfolding AreLaid
laid_drop at zero [] l = tt
laid_drop at (suc i) [] l = tt
laid_drop at zero (s ∷ ss) l = laid_weaker 0 at (s ∷ ss) (omega arith) l
laid_drop at (suc i) (s ∷ ss) l = laid_drop s.end i ss l.2

-- multiples and rounding up
before_ceil : (e a m : ℕ) → 0 < a → m < div_ceil e a → a * m < e
before_ceil e a m pos h =
    let c : (e ≤ div_ceil e a * a) × (div_ceil e a * a < e + a) = div_ceil_times e a pos in
    let d : (m + 1) * a ≤ div_ceil e a * a = mul-le-mul_right a (omega (arith, h)) in
    let f : (m + 1) * a ≡ a * m + a = grind arith in
    omega (arith, c.1, d, f)

past_ceil : (e a r : ℕ) → 0 < a → div_ceil e a ≤ r → e ≤ a * r
past_ceil e a r pos h =
    let c : (e ≤ div_ceil e a * a) × (div_ceil e a * a < e + a) = div_ceil_times e a pos in
    let d : a * div_ceil e a ≤ a * r = mul-le-mul_left a h in
    let f : div_ceil e a * a ≡ a * div_ceil e a = grind arith in
    omega (arith, c.0, d, f)

or_true : (a b : Bool) → b ≡ true → (a || b) ≡ true
or_true true b h = refl
or_true false b h = h

-- the next free multiple among stretches
fits_here : (s : TakenRange) (ss : List TakenRange) (align size from : ℕ) → s.start < s.end → AreLaid s.end ss → align * from + size ≤ s.start → IsNext (s ∷ ss) align size from from
fits_here s ss align size from before l fits = record {
  after = omega arith;
  free = rw (share_behind (align * from) (align * from + size) s.start s.end fits) (behind_none (align * from) (align * from + size) s.end ss l (omega arith));
  none = λ m a b. absurd (omega (arith, a, b));
}

-- a lower multiple meets the stretch that is passed
meets_passed : (s : TakenRange) (align size from m : ℕ) → 0 < align → 0 < size → s.start < s.end → s.start < align * from + size → from ≤ m → m < max from (div_ceil s.end align) → meets (align * m) (align * m + size) s ≡ true
meets_passed s align size from m pos some before off a b =
    let lc : m < div_ceil s.end align = less_one from (div_ceil s.end align) m a b in
    let inside : align * m < s.end = before_ceil s.end align m pos lc in
    let up : align * from ≤ align * m = mul-le-mul_left align a in
    share_some (align * m) (align * m + size) s.start s.end (omega (arith, some)) before inside (omega (arith, off, up))
  where
    less_one : (x y m : ℕ) → x ≤ m → m < max x y → m < y
    less_one x y m a b = grind (arith, a, b)

passed_here : (s : TakenRange) (ss : List TakenRange) (align size from r : ℕ) → 0 < align → 0 < size → s.start < s.end → s.start < align * from + size
    → IsNext ss align size (max from (div_ceil s.end align)) r → IsNext (s ∷ ss) align size from r
passed_here s ss align size from r pos some before off i =
    let up : (x y : ℕ) → x ≤ max x y = λ x y. grind arith in
    let ceil : (x y : ℕ) → y ≤ max x y = λ x y. grind arith in
    let past : s.end ≤ align * r = past_ceil s.end align r pos (omega (arith, ceil from (div_ceil s.end align), i.after)) in
    record {
      after = omega (arith, up from (div_ceil s.end align), i.after);
      free = rw (share_before (align * r) (align * r + size) s.start s.end past) i.free;
      none = λ m a b. by_place m a b (nat_lt m (max from (div_ceil s.end align))) refl;
    }
  where
    by_place : (m : ℕ) → from ≤ m → m < r → (c : Bool) → nat_lt m (max from (div_ceil s.end align)) ≡ c → list_any (meets (align * m) (align * m + size)) (s ∷ ss) ≡ true
    by_place m a b true f =
        ap (λ z. z || list_any (meets (align * m) (align * m + size)) ss) (meets_passed s align size from m pos some before off a (below m (max from (div_ceil s.end align)) f))
      where
        below : (x y : ℕ) → nat_lt x y ≡ true → x < y
        below x y f = grind (arith, nat_tests, f)
    by_place m a b false f = or_true (meets (align * m) (align * m + size) s) (list_any (meets (align * m) (align * m + size)) ss) (i.none m (above m (max from (div_ceil s.end align)) f) b)
      where
        above : (x y : ℕ) → nat_lt x y ≡ false → y ≤ x
        above x y f = grind (arith, nat_tests, f)

by_fit : (s : TakenRange) (ss : List TakenRange) (align size from : ℕ) → 0 < align → 0 < size → s.start < s.end → AreLaid s.end ss
    → IsNext ss align size (max from (div_ceil s.end align)) (first_multiple ss align size (max from (div_ceil s.end align)))
    → (b : Bool) → nat_le (align * from + size) s.start ≡ b
    → IsNext (s ∷ ss) align size from (cond b from (first_multiple ss align size (max from (div_ceil s.end align))))
by_fit s ss align size from pos some before l i true e = fits_here s ss align size from before l (grind (arith, nat_tests, e))
by_fit s ss align size from pos some before l i false e = passed_here s ss align size from _ pos some before (grind (arith, nat_tests, e)) i

pub next_among : (ss : List TakenRange) (at align size from : ℕ) → AreLaid at ss → 0 < align → 0 < size → IsNext ss align size from (first_multiple ss align size from)
unfolding AreLaid first_multiple
next_among [] at align size from l pos some = record { after = omega arith; free = refl; none = λ m a b. absurd (omega (arith, a, b)) }
next_among (s ∷ ss) at align size from l pos some =
    by_fit s ss align size from pos some l.1 l.2 (next_among ss s.end align size (max from (div_ceil s.end align)) l.2 pos some) (nat_le (align * from + size) s.start) refl

-- the same among all, where those in front end before
pub next_behind : (taken : List TakenRange) (i align size from : ℕ) → AreLaid 0 taken → 0 < align → 0 < size → AllByRecursion (λ s. s.end ≤ align * from) (take i taken)
    → IsNext taken align size from (first_multiple (drop i taken) align size from)
next_behind taken i align size from l pos some ended =
    let r : ℕ = first_multiple (drop i taken) align size from in
    let n : IsNext (drop i taken) align size from r = next_among (drop i taken) 0 align size from (laid_drop 0 i taken l) pos some in
    let up : align * from ≤ align * r = mul-le-mul_left align n.after in
    let parts : (f : TakenRange → Bool) → list_any f taken ≡ (list_any f (take i taken) || list_any f (drop i taken)) = λ f. ap (list_any f) (sym (take-append-drop i taken)) ∙ list_any-append f (take i taken) (drop i taken) in
    record {
      after = n.after;
      free = parts (meets (align * r) (align * r + size)) ∙ ap (λ b. b || list_any (meets (align * r) (align * r + size)) (drop i taken)) (ended_none (align * r) (align * r + size) (take i taken) (ended_later (align * from) (align * r) (take i taken) up ended)) ∙ n.free;
      none = λ m a b. parts (meets (align * m) (align * m + size)) ∙ or_true (list_any (meets (align * m) (align * m + size)) (take i taken)) (list_any (meets (align * m) (align * m + size)) (drop i taken)) (n.none m a b);
    }
  where
    ended_later : (a b : ℕ) (ss : List TakenRange) → a ≤ b → AllByRecursion (λ s. s.end ≤ a) ss → AllByRecursion (λ s. s.end ≤ b) ss
    ended_later a b [] h l = tt
    ended_later a b (s ∷ ss) h l = (omega (arith, l.0, h), ended_later a b ss h l.1)

pub below_drop : (i : ℕ) (ss : List TakenRange) → AreBelow ss → AreBelow (drop i ss)
below_drop zero [] b = tt
below_drop (suc i) [] b = tt
below_drop zero (s ∷ ss) b = b
below_drop (suc i) (s ∷ ss) b = below_drop i ss b.1

-- a room of nothing
abbrev pub zeros : List ℕ
zeros = 0 ∷ 0 ∷ 0 ∷ 0 ∷ 0 ∷ 0 ∷ []

pub holds_none : (room : FreeMap) → room.taken.items ≡ [] → room.lows ≡ zeros → Holds [] room
unfolding AreLaid
holds_none room e f = record {
  sound = record { laid = rw e tt; below = rw e tt; small = λ d. rw f (zero_small d) };
  same = λ s n. rw e refl;
  past = λ d m lt. absurd (zero_not d m (rw f at lt));
}
  where
    zero_at : (d : Datum) → slice_index_or zeros (slot d) 0 ≡ 0
    zero_at U8 = refl
    zero_at U16 = refl
    zero_at U32 = refl
    zero_at U64 = refl
    zero_at Boolean = refl
    zero_at Void = refl

    zero_small : (d : Datum) → slice_index_or zeros (slot d) 0 ≤ room_limit
    zero_small d = omega (arith, zero_at d)

    zero_not : (d : Datum) (m : ℕ) → m < slice_index_or zeros (slot d) 0 → ⊥
    zero_not d m lt = omega (arith, zero_at d, lt)

-- what a place parts
parted : (f : TakenRange → Bool) (ss : List TakenRange) (i : ℕ) → list_any f ss ≡ (list_any f (take i ss) || list_any f (drop i ss))
parted f ss i = ap (list_any f) (sym (take-append-drop i ss)) ∙ list_any-append f (take i ss) (drop i ss)

-- bytes behind what is ended meet what is left, if anything
left_meets : (start end i : ℕ) (ss : List TakenRange) → AllByRecursion (λ s. s.end ≤ start) (take i ss) → list_any (meets start end) ss ≡ list_any (meets start end) (drop i ss)
left_meets start end i ss h = parted (meets start end) ss i ∙ ap (λ b. b || list_any (meets start end) (drop i ss)) (ended_none start end (take i ss) h)

clear_first : (start end : ℕ) (s : TakenRange) (ss : List TakenRange) → start < end → AreLaid 0 (s ∷ ss) → start < s.end → nat_le end s.start ≡ not (list_any (meets start end) (s ∷ ss))
unfolding AreLaid
clear_first start end s ss some l behind = by_fit (nat_le end s.start) refl
  where
    by_fit : (b : Bool) → nat_le end s.start ≡ b → b ≡ not (list_any (meets start end) (s ∷ ss))
    by_fit true e =
        let fits : end ≤ s.start = grind (arith, nat_tests, e) in
        let laid : s.start < s.end = l.1 in
        rw (share_behind start end s.start s.end fits, behind_none start end s.end ss l.2 (omega (arith, laid, fits))) refl
    by_fit false e = rw (share_some start end s.start s.end some l.1 behind (grind (arith, nat_tests, e))) refl

pub clear_some : (taken : List TakenRange) (i start size : ℕ) (next : TakenRange) → AreLaid 0 taken → 0 < size
    → AllByRecursion (λ s. s.end ≤ start) (take i taken) → AllByRecursion (λ s. start < s.end) (drop i taken) → i < length taken → next ≡ get_or taken i next
    → nat_le (start + size) next.start ≡ not (list_any (meets start (start + size)) taken)
clear_some taken i start size next l some before behind within e =
    let is : drop i taken ≡ next ∷ drop (i + 1) taken = head_drop taken i next within e in
    let laid : AreLaid 0 (next ∷ drop (i + 1) taken) = subst (λ z. AreLaid 0 z) is (laid_drop 0 i taken l) in
    let first : AllByRecursion (λ s. start < s.end) (next ∷ drop (i + 1) taken) = subst (λ z. AllByRecursion (λ s. start < s.end) z) is behind in
    clear_first start (start + size) next (drop (i + 1) taken) (omega (arith, some)) laid first.0
    ∙ ap (λ z. not (list_any (meets start (start + size)) z)) (sym is) ∙ ap not (sym (left_meets start (start + size) i taken before))

pub clear_none : (taken : List TakenRange) (i start end : ℕ) → AllByRecursion (λ s. s.end ≤ start) (take i taken) → length taken ≤ i → true ≡ not (list_any (meets start end) taken)
clear_none taken i start end before past = ap (λ z. not (list_any (meets start end) z)) (sym (drop_all i taken past)) ∙ ap not (sym (left_meets start end i taken before))

-- what is left starts behind bytes that are free
free_left : (start end : ℕ) (ss : List TakenRange) → start < end → AreLaid 0 ss → AllByRecursion (λ s. start < s.end) ss → list_any (meets start end) ss ≡ false → AreLaid end ss
unfolding AreLaid
free_left start end [] some l behind none = tt
free_left start end (s ∷ ss) some l behind none =
    (share_not start end s.start s.end behind.0 l.1 some (first_false (meets start end s) (list_any (meets start end) ss) none), l.1, l.2)
  where
    first_false : (a b : Bool) → (a || b) ≡ false → a ≡ false
    first_false true b h = h
    first_false false b h = refl

laid_between : (at start end : ℕ) (front back : List TakenRange) → AreLaid at (front ++ back) → at ≤ start → start < end → AllByRecursion (λ s. s.end ≤ start) front → AreLaid end back
    → AreLaid at (front ++ record { start = start; end = end } ∷ back)
unfolding AreLaid
laid_between at start end [] back l h some before behind = (h, some, behind)
laid_between at start end (s ∷ ss) back l h some before behind = (l.0, l.1, laid_between s.end start end ss back l.2 before.0 some before.1 behind)

below_between : (stretch : TakenRange) (front back : List TakenRange) → AreBelow (front ++ back) → stretch.end ≤ room_limit → AreBelow (front ++ stretch ∷ back)
below_between stretch [] back b h = (h, b)
below_between stretch (s ∷ ss) back b h = (b.0, below_between stretch ss back b.1 h)

swapped : (a b c d : Bool) → (a || b) ≡ d → (d || (c || false)) ≡ (a || (c || b))
swapped true b c d e = ap (λ z. z || (c || false)) (sym e)
swapped false true c d e = ap (λ z. z || (c || false)) (sym e) ∙ any_or c
  where
    any_or : (c : Bool) → true ≡ (c || true)
    any_or true = refl
    any_or false = refl
swapped false false c d e = ap (λ z. z || (c || false)) (sym e)

not_true : (b : Bool) → not b ≡ true → b ≡ false
not_true false h = refl
not_true true h = absurd cc

pub holds_put : (placed : List Placed) (p : Placed) (old new : FreeMap) (i start size : ℕ)
    → Holds placed old → is_free placed size start ≡ true → p.offset ≡ start → size_of p.entry.row ≡ size → 0 < size → start + size ≤ room_limit
    → AllByRecursion (λ s. s.end ≤ start) (take i old.taken.items) → AllByRecursion (λ s. start < s.end) (drop i old.taken.items)
    → new.taken.items ≡ insert old.taken.items i (record { start = start; end = start + size }) → new.lows ≡ old.lows → Holds (placed ++ p ∷ []) new
unfolding end_of
holds_put placed p old new i start size h free at long some end before behind put lows =
    let ss : List TakenRange = old.taken.items in
    let none : list_any (meets start (start + size)) (drop i ss) ≡ false = sym (left_meets start (start + size) i ss before) ∙ sym (h.same start size) ∙ not_true (list_any (shares start (start + size)) placed) free in
    let back : AreLaid (start + size) (drop i ss) = free_left start (start + size) (drop i ss) (omega (arith, some)) (laid_drop 0 i ss h.sound.laid) behind none in
    let whole : AreLaid 0 (take i ss ++ drop i ss) = rw (take-append-drop i ss) h.sound.laid in
    let under : AreBelow (take i ss ++ drop i ss) = rw (take-append-drop i ss) h.sound.below in
    record {
      sound = record {
        laid = rw put (laid_between 0 start (start + size) (take i ss) (drop i ss) whole (omega arith) (omega (arith, some)) before back);
        below = rw put (below_between (record { start = start; end = start + size }) (take i ss) (drop i ss) under end);
        small = λ d. rw lows (h.sound.small d);
      };
      same = λ s n.
          list_any-append (shares s (s + n)) placed (p ∷ [])
          ∙ ap (λ o. list_any (shares s (s + n)) placed || (share s (s + n) o (o + size_of p.entry.row) || false)) at
          ∙ ap (λ k. list_any (shares s (s + n)) placed || (share s (s + n) start (start + k) || false)) long
          ∙ swapped (list_any (meets s (s + n)) (take i ss)) (list_any (meets s (s + n)) (drop i ss)) (share s (s + n) start (start + size)) (list_any (shares s (s + n)) placed) (sym (parted (meets s (s + n)) ss i) ∙ sym (h.same s n))
          ∙ sym (list_any-append (meets s (s + n)) (take i ss) (record { start = start; end = start + size } ∷ drop i ss))
          ∙ ap (list_any (meets s (s + n))) (sym put);
      past = λ d m lt. any_more (shares _ _) placed p (h.past d m (rw (← lows) lt));
    }

-- the least place
pub free_past : (placed : List Placed) (start size : ℕ) → greatest_end placed ≤ start → list_any (shares start (start + size)) placed ≡ false
unfolding greatest_end
free_past [] start size h = refl
free_past (p ∷ ps) start size h =
    rw (share_before start (start + size) p.offset (end_of p) (first_max (end_of p) (greatest_end ps) h)) (free_past ps start size (second_max (end_of p) (greatest_end ps) h))
  where
    first_max : (a b : ℕ) → max a b ≤ start → a ≤ start
    first_max a b h = grind (arith, h)

    second_max : (a b : ℕ) → max a b ≤ start → b ≤ start
    second_max a b h = grind (arith, h)

by_first : (test : ℕ → Bool) (count from n : ℕ) (b : Bool) → test from ≡ b → from ≤ n → test n ≡ true → ((m : ℕ) → from ≤ m → m < n → test m ≡ false) → (from < n → first_from test count (suc from) ≡ n)
    → cond b from (first_from test count (suc from)) ≡ n
by_first test count from n true e a ok lower rest = at_once (nat_lt from n) refl
  where
    both : (x : Bool) → x ≡ true → x ≡ false → ⊥
    both x p q = absurd cc

    at_once : (c : Bool) → nat_lt from n ≡ c → from ≡ n
    at_once false f = grind (arith, nat_tests, a, f)
    at_once true f = absurd (both (test from) e (lower from (omega arith) (grind (arith, nat_tests, f))))
by_first test count from n false e a ok lower rest = later (nat_lt from n) refl
  where
    both : (x : Bool) → x ≡ true → x ≡ false → ⊥
    both x p q = absurd cc

    later : (c : Bool) → nat_lt from n ≡ c → first_from test count (suc from) ≡ n
    later true f = rest (grind (arith, nat_tests, f))
    later false f = absurd (both (test n) ok (ap test (same_at f) ∙ e))
      where
        same_at : nat_lt from n ≡ false → n ≡ from
        same_at f = grind (arith, nat_tests, a, f)

first_is : (test : ℕ → Bool) (count from n : ℕ) → from ≤ n → n ≤ from + count → test n ≡ true → ((m : ℕ) → from ≤ m → m < n → test m ≡ false) → first_from test count from ≡ n
unfolding first_from
first_is test zero from n a b ok lower = omega (arith, a, b)
first_is test (suc count) from n a b ok lower =
    by_first test count from n (test from) refl a ok lower (λ lt. first_is test count (suc from) n (grind (arith, lt)) (grind (arith, b)) ok (λ m c d. lower m (grind (arith, c)) d))

pub least_is : (placed : List Placed) (align size n : ℕ) → 0 < align → list_any (shares (align * n) (align * n + size)) placed ≡ false
    → ((m : ℕ) → m < n → list_any (shares (align * m) (align * m + size)) placed ≡ true) → align * n ≡ least_place placed align size
unfolding least_place
least_is placed align size n pos free none =
    ap (λ z. align * z) (sym (first_is (λ m. is_free placed size (align * m)) (greatest_end placed) 0 n (omega arith) (omega (arith, within (nat_lt (greatest_end placed) n) refl)) (ap not free) (λ m a lt. ap not (none m lt))))
  where
    both : (x : Bool) → x ≡ true → x ≡ false → ⊥
    both x p q = absurd cc

    within : (b : Bool) → nat_lt (greatest_end placed) n ≡ b → n ≤ greatest_end placed
    within false e = grind (arith, nat_tests, e)
    within true e =
        let g : ℕ = greatest_end placed in
        let up : 1 * g ≤ align * g = mul-le-mul_right g pos in
        absurd (both (list_any (shares (align * g) (align * g + size)) placed) (none g (grind (arith, nat_tests, e))) (free_past placed (align * g) size (omega (arith, up))))

-- what two searches among stretches come to
pub least_found : (placed : List Placed) (room : FreeMap) (datum : Datum) (size low n : ℕ) → Holds placed room → 0 < align_of datum → least_size datum ≤ size
    → IsNext room.taken.items (align_of datum) (least_size datum) (low_of room datum) low → IsNext room.taken.items (align_of datum) size low n
    → align_of datum * n ≡ least_place placed (align_of datum) size
least_found placed room datum size low n h pos small first second =
    least_is placed (align_of datum) size n pos (h.same (align_of datum * n) size ∙ second.free) (λ m lt. by_low m lt (nat_lt m low) refl)
  where
    by_low : (m : ℕ) → m < n → (b : Bool) → nat_lt m low ≡ b → list_any (shares (align_of datum * m) (align_of datum * m + size)) placed ≡ true
    by_low m lt false e = h.same (align_of datum * m) size ∙ second.none m (grind (arith, nat_tests, e)) lt
    by_low m lt true e =
        any_longer (align_of datum * m) (align_of datum * m + least_size datum) (align_of datum * m + size) placed (omega (arith, small)) (by_past (nat_lt m (low_of room datum)) refl)
      where
        by_past : (c : Bool) → nat_lt m (low_of room datum) ≡ c → list_any (shares (align_of datum * m) (align_of datum * m + least_size datum)) placed ≡ true
        by_past true f = h.past datum m (grind (arith, nat_tests, f))
        by_past false f = h.same (align_of datum * m) (least_size datum) ∙ first.none m (grind (arith, nat_tests, f)) (grind (arith, nat_tests, e))

-- values that have bytes have at least the least size of their type
pub least_size_of : (row : PcdRow) → 0 < size_of row → least_size row.datum ≤ size_of row
unfolding size_of least_size
least_size_of row some = by_type row.datum some
  where
    by_type : (d : Datum) → 0 < size_by d row.max → least_size d ≤ size_by d row.max
    by_type U8 h = omega arith
    by_type U16 h = omega arith
    by_type U32 h = omega arith
    by_type U64 h = omega arith
    by_type Boolean h = omega arith
    by_type Void h = omega (arith, h)
