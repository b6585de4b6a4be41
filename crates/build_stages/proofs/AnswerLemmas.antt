-- Where an ask stands, its answer stands.
use Rattle.std.proofs.Common.{◌≡◌, ℕ, zero, suc, ◌<◌, ◌≤◌, ◌+◌, arith, Bool, true, false, cond, List, [], ◌∷◌, length, get_or, drop, slice_get, Option, Some, None, MatchOption, refl, sym, ap, ◌∙◌, subst, Bor}
use Rattle.std.specs.Option.{option_map, option_and_then, option_copied}
use Rattle.std.specs.List.{position, position_or_len}
use Rattle.std.specs.declared.cmp.Ordering.{Ordering}
use Rattle.std.proofs.lemmas.Bool.Decides.{nat_tests}
use Rattle.std.proofs.lemmas.List.Quantifiers.{position-Some}
use Rattle.std.proofs.lemmas.List.{length-map}
use Rattle.std.proofs.lemmas.Option.{slice_get-get_or}
use Rattle.std.proofs.lemmas.List.Sums.{fails_before_first}
use Rattle.std.proofs.lemmas.Map.Lookups.{CmpEqualImpliesEq}
use Rattle.step_engine.specs.declared.talk.Ask.{Ask}
use Rattle.step_engine.specs.declared.talk.Answer.{Answer}
use Rattle.build_stages.specs.Answered.{AreAnswered, IsPlace, is_wanted}
use Rattle.build_stages.specs.Known.{shown}
use Rattle.build_stages.specs.Stages.{Known, with_answers, answered, cons_both}
use Rattle.build_stages.specs.Told.{file_is, field_is, part_is}
use Rattle.build_stages.specs.Writing.{answer_where}
use Rattle.build_stages.specs.declared.given.Wanted.{Wanted}
use Rattle.build_stages.specs.declared.given.Wanted.TheVariants as wanted
use Rattle.build_stages.proofs.GatherLemmas.{answered_length}

-- what is looked for is one ask

abbrev IsOne : {K : Type 0} → (Ask K → Bool) → Type 0
IsOne {K} is = (a b : Ask K) → is a ≡ true → is b ≡ true → a ≡ b

pub wanted_is_one : {K : Type 0} (cmp : K → K → Ordering) → CmpEqualImpliesEq cmp → (w : Wanted K) → IsOne (is_wanted cmp w)
wanted_is_one cmp key (wanted.File path) = λ a b e f. file_is path.now a e ∙ sym (file_is path.now b f)
wanted_is_one cmp key (wanted.Field n) = λ a b e f. field_is n a e ∙ sym (field_is n b f)
wanted_is_one cmp key (wanted.Part k) = λ a b e f. part_is cmp key k.now a e ∙ sym (part_is cmp key k.now b f)

-- an ask is answered by what is known of it
answered_at : {K O : Type 0} (known : Known K O) (asks : List (Ask K)) (answers : List (Answer O)) → answered known asks ≡ Some answers → (i : ℕ) → i < length asks
    → slice_get answers i ≡ option_and_then known (slice_get asks i)
answered_at known [] answers e i l = absurd (omega (arith, l))
answered_at {K} {O} known (a ∷ asks) answers e i l =
    (elim (known a) as (λ o. known a ≡ o → cons_both o (answered known asks) ≡ Some answers → slice_get answers i ≡ option_and_then known (slice_get (a ∷ asks) i)) [
      | None ↦ λ k e. absurd cc
      | Some x ↦ λ k e. (elim (answered known asks) as (λ r. answered known asks ≡ r → cons_both (Some x) r ≡ Some answers → slice_get answers i ≡ option_and_then known (slice_get (a ∷ asks) i)) [
        | None ↦ λ r e. absurd cc
        | Some xs ↦ λ r e.
            let is : x ∷ xs ≡ answers = cc in
            subst (λ (ys : List (Answer O)). slice_get ys i ≡ option_and_then known (slice_get (a ∷ asks) i)) is
            ((elim i as (λ i. i < length (a ∷ asks) → slice_get (x ∷ xs) i ≡ option_and_then known (slice_get (a ∷ asks) i)) [
              | zero ↦ λ l. sym k
              | suc j ↦ λ l. answered_at known asks xs r j (omega (arith, l))
            ]) l)
      ]) refl e
    ]) refl e

past : {A : Type 0} (xs : List A) (i : ℕ) → i < length xs → slice_get xs i ≡ None → ⊥
past [] i l e = absurd (omega (arith, l))
past (x ∷ xs) zero l e = absurd cc
past (x ∷ xs) (suc i) l e = past xs i (omega (arith, l)) e

within : {A : Type 0} (xs : List A) (i : ℕ) (x : A) → slice_get xs i ≡ Some x → i < length xs
within [] i x e = absurd cc
within (y ∷ xs) zero x e = omega arith
within (y ∷ xs) (suc i) x e = let l : i < length xs = within xs i x e in omega (arith, l)

pub are_answered : {K O : Type 0} (known : Known K O) (asks : List (Ask K)) (answers : List (Answer O)) → answered known asks ≡ Some answers → AreAnswered asks answers
are_answered {K} {O} known asks answers e = record {
  each = answered_length known asks answers e;
  same = λ i j l is.
      (elim (slice_get asks i) as (λ o. slice_get asks i ≡ o → slice_get answers i ≡ slice_get answers j) [
        | None ↦ λ n. absurd (past asks i l n)
        | Some a ↦ λ s.
            answered_at known asks answers e i l ∙ ap (option_and_then known) is
            ∙ sym (answered_at known asks answers e j (within asks j a (sym is ∙ s)))
      ]) refl;
}

-- a place among answers, and among asks

pub place_within : {K : Type 0} (is : Ask K → Bool) (asks : List (Ask K)) (i : ℕ) → IsPlace is asks i → i < length asks
place_within is [] i e = absurd cc
place_within is (a ∷ asks) zero e = omega arith
place_within is (a ∷ asks) (suc i) e = let l : i < length asks = place_within is asks i e in omega (arith, l)

get_place : {K : Type 0} (is : Ask K → Bool) (asks : List (Ask K)) (i : ℕ) (d : Ask K) → i < length asks → is (get_or asks i d) ≡ true → IsPlace is asks i
get_place is [] i d l e = absurd (omega (arith, l))
get_place is (a ∷ asks) zero d l e = ap Some e
get_place is (a ∷ asks) (suc i) d l e = get_place is asks i d (omega (arith, l)) e

first_ask : {K : Type 0} (is : Ask K → Bool) (asks : List (Ask K)) (i : ℕ) → position is asks ≡ Some i → IsPlace is asks i
first_ask is [] i e = absurd cc
first_ask {K} is (a ∷ asks) i e = let found = position-Some is (a ∷ asks) i a e in get_place is (a ∷ asks) i a found.0 found.1

drop_place : {K : Type 0} (is : Ask K → Bool) (asks : List (Ask K)) (n i : ℕ) → IsPlace is (drop n asks) i → IsPlace is asks (n + i)
drop_place {K} is asks zero i e = let same : i ≡ 0 + i = omega arith in subst (λ n. IsPlace is asks n) same e
drop_place is [] (suc n) i e = absurd cc
drop_place {K} is (a ∷ asks) (suc n) i e =
    let same : suc (n + i) ≡ suc n + i = omega arith in
    subst (λ k. IsPlace is (a ∷ asks) k) same (drop_place is asks n i e)

pub place_first : {K : Type 0} (is : Ask K → Bool) (asks : List (Ask K)) (o : Option ℕ) → o ≡ position is asks → MatchOption o (position is asks ≡ None) (IsPlace is asks)
place_first is asks None e = sym e
place_first is asks (Some i) e = first_ask is asks i (sym e)

pub place_behind : {K : Type 0} (is : Ask K → Bool) (asks : List (Ask K)) (n i : ℕ) → Some i ≡ position is (drop n asks) → IsPlace is asks (n + i)
place_behind is asks n i e = drop_place is asks n i (first_ask is (drop n asks) i (sym e))

-- none stands there
place_fails : {K : Type 0} (is : Ask K → Bool) (asks : List (Ask K)) (i : ℕ) (d : Ask K) → IsPlace is asks i → is (get_or asks i d) ≡ false → ⊥
place_fails is [] i d p f = absurd cc
place_fails is (a ∷ asks) zero d p f = absurd cc
place_fails is (a ∷ asks) (suc i) d p f = place_fails is asks i d p f

none_among : {K O : Type 0} (is : Ask K → Bool) (asks : List (Ask K)) (answers : List (Answer O)) → ((k : ℕ) → IsPlace is asks k → ⊥) → answer_where is (with_answers asks answers) ≡ None
none_among is [] answers h = refl
none_among is (a ∷ asks) [] h = refl
none_among {K} {O} is (a ∷ asks) (x ∷ answers) h =
    (elim (is a) as (λ b. is a ≡ b → cond b (Some x) (answer_where is (with_answers asks answers)) ≡ None) [
      | true ↦ λ e. absurd (h 0 (ap Some e))
      | false ↦ λ e. none_among is asks answers (λ k p. h (suc k) p)
    ]) refl

passes_none : {K : Type 0} (is : Ask K → Bool) (asks : List (Ask K)) → position is asks ≡ None → (k : ℕ) → IsPlace is asks k → ⊥
passes_none is [] e k p = absurd cc
passes_none {K} is (a ∷ asks) e k p =
    let past : length (a ∷ asks) ≤ position_or_len is (a ∷ asks) = grind (arith, nat_tests, e) in
    let l : k < length (a ∷ asks) = place_within is (a ∷ asks) k p in
    let f : is (get_or (a ∷ asks) k a) ≡ false = fails_before_first is (a ∷ asks) k a (omega (arith, past, l)) in
    place_fails is (a ∷ asks) k a p f

pub answer_none : {K O : Type 0} (is : Ask K → Bool) (asks : List (Ask K)) (answers : List (Answer O)) → position is asks ≡ None → answer_where is (with_answers asks answers) ≡ None
answer_none {K} {O} is asks answers e = none_among is asks answers (passes_none is asks e)

-- the first answer to such an ask stands at a place of it
first_answer : {K O : Type 0} (is : Ask K → Bool) (asks : List (Ask K)) (answers : List (Answer O)) → length answers ≡ length asks → (i : ℕ) → IsPlace is asks i
    → (j : ℕ) × IsPlace is asks j × (answer_where is (with_answers asks answers) ≡ slice_get answers j)
first_answer is [] answers n i p = absurd cc
first_answer is (a ∷ asks) [] n i p = absurd (omega (arith, n))
first_answer {K} {O} is (a ∷ asks) (x ∷ answers) n i p =
    (elim (is a) as (λ b. is a ≡ b → (j : ℕ) × IsPlace is (a ∷ asks) j × (cond b (Some x) (answer_where is (with_answers asks answers)) ≡ slice_get (x ∷ answers) j)) [
      | true ↦ λ e. (0, ap Some e, refl)
      | false ↦ λ e.
          (elim i as (λ i. IsPlace is (a ∷ asks) i → (j : ℕ) × IsPlace is (a ∷ asks) j × (answer_where is (with_answers asks answers) ≡ slice_get (x ∷ answers) j)) [
            | zero ↦ λ p. absurd cc
            | suc k ↦ λ p. let h = first_answer is asks answers (omega (arith, n)) k p in (suc h.0, h.1, h.2)
          ]) p
    ]) refl

same_asks : {K : Type 0} (is : Ask K → Bool) → IsOne is → (o p : Option (Ask K)) → option_map is o ≡ Some true → option_map is p ≡ Some true → o ≡ p
same_asks is one None p e f = absurd cc
same_asks is one (Some a) None e f = absurd cc
same_asks is one (Some a) (Some b) e f = let t : is a ≡ true = cc in let u : is b ≡ true = cc in ap Some (one a b t u)

-- what stands at any place of it
pub answer_at : {K O : Type 0} (is : Ask K → Bool) → IsOne is → (asks : List (Ask K)) (answers : List (Answer O)) → AreAnswered asks answers → (i : ℕ) → IsPlace is asks i
    → answer_where is (with_answers asks answers) ≡ slice_get answers i
answer_at is one asks answers are i p =
    let h = first_answer is asks answers are.each i p in
    h.2 ∙ are.same h.0 i (place_within is asks h.0 h.1) (same_asks is one (slice_get asks h.0) (slice_get asks i) h.1 p)

shown_get : {A : Type 0} (xs : List (Bor A)) (i : ℕ) → slice_get (shown xs) i ≡ option_copied (slice_get xs i)
shown_get [] i = refl
shown_get (x ∷ xs) zero = refl
shown_get (x ∷ xs) (suc i) = shown_get xs i

pub answer_within : {K O : Type 0} (cmp : K → K → Ordering) (w : Wanted K) (asks : List (Ask K)) (answers : List (Bor (Answer O))) → AreAnswered asks (shown answers) → (i : ℕ) → IsPlace (is_wanted cmp w) asks i → i < length answers
answer_within cmp w asks answers are i p =
    let each : length (shown answers) ≡ length asks = are.each in
    let shown_same : length (shown answers) ≡ length answers = length-map answers (λ x. x.now) in
    let l : i < length asks = place_within (is_wanted cmp w) asks i p in
    omega (arith, each, shown_same, l)

pub answer_is : {K O : Type 0} (cmp : K → K → Ordering) → CmpEqualImpliesEq cmp → (w : Wanted K) (asks : List (Ask K)) (answers : List (Bor (Answer O))) → AreAnswered asks (shown answers) → (i : ℕ) → IsPlace (is_wanted cmp w) asks i
    → (x : Bor (Answer O)) → x ≡ get_or answers i x → Some x.now ≡ answer_where (is_wanted cmp w) (with_answers asks (shown answers))
answer_is {K} {O} cmp key w asks answers are i p x e =
    let l : i < length answers = answer_within cmp w asks answers are i p in
    ap (λ (y : Bor (Answer O)). Some y.now) e
    ∙ ap option_copied (sym (slice_get-get_or answers i x l))
    ∙ sym (shown_get answers i) ∙ sym (answer_at (is_wanted cmp w) (wanted_is_one cmp key w) asks (shown answers) are i p)
