-- By this project's own form of steps: rules that are written as stages are lawful, and what a turn
-- of them answers.
use Rattle.std.proofs.Common.{◌≡◌, ◌++◌, List, [], ◌∷◌, Some, None, Result, Ok, Err, true, false, ap, ◌∙◌, subst}
use Rattle.std.specs.Ordering.{is_eq}
use Rattle.std.specs.Cmp.{IsTotalOrder, tied_itself, nat_cmp_total}
use Rattle.std.specs.Cmp.Lexicographic.{nat_list_cmp_total}
use Rattle.std.specs.declared.cmp.Ordering.{Ordering}
use Rattle.std.proofs.lemmas.Map.Lookups.{CmpEqualImpliesEq, exact_bytes, exact_unsigned}
use Rattle.std.proofs.lemmas.Map.Views.{tells_apart}
use Rattle.build_base.specs.World.{World}
use Rattle.build_base.specs.declared.fault.Fault.{Fault}
use Rattle.step_engine.specs.Meaning.{right, asks_of, IsRight, IsWorld}
use Rattle.step_engine.specs.Turns.{AreLawful, IsTurn}
use Rattle.step_engine.specs.declared.rules.Turn.TheVariants as turn
use Rattle.build_base.specs.declared.book.Permit.{Permit}
use Rattle.step_engine.specs.declared.talk.Ask.{Ask}
use Rattle.step_engine.specs.declared.talk.Ask.TheVariants as ask
use Rattle.step_engine.specs.declared.talk.Outcome.TheVariants.{Good, Bad}
use Rattle.step_engine.specs.declared.talk.Batch.{Batch}
use Rattle.std.specs.Option.{is_some}
use Rattle.build_stages.specs.Stages.{outcome_of, Known, Halt, wants, fails, advance, known_in, Staged, wanted_in, turned, meaning_of, AreBounded}
use Rattle.build_stages.specs.Asks.{same_ask}
use Rattle.build_stages.specs.StagesLaws.{value_is, advance_run, advance_fails}
use Rattle.build_stages.specs.StagesTurns.{IsExact, wants_new, wants_lower, talk_has, talk_grows, talk_last, left_falls, talk_agrees}

asks_same : {K : Type 0} (cmp : K → K → Ordering) → CmpEqualImpliesEq cmp → (a b : Ask K)
    → same_ask cmp a b ≡ true → a ≡ b
asks_same cmp key (ask.File p) (ask.File q) e = ap ask.File (tells_apart exact_bytes p q e)
asks_same cmp key (ask.Field i) (ask.Field j) e = ap ask.Field (tells_apart exact_unsigned i j e)
asks_same cmp key (ask.Part k) (ask.Part l) e = ap ask.Part (tells_apart key k l e)
asks_same cmp key (ask.File p) (ask.Field j) e = absurd (cc)
asks_same cmp key (ask.File p) (ask.Part l) e = absurd (cc)
asks_same cmp key (ask.Field i) (ask.File q) e = absurd (cc)
asks_same cmp key (ask.Field i) (ask.Part l) e = absurd (cc)
asks_same cmp key (ask.Part k) (ask.File q) e = absurd (cc)
asks_same cmp key (ask.Part k) (ask.Field j) e = absurd (cc)

same_itself : {K : Type 0} (cmp : K → K → Ordering) → IsTotalOrder cmp → (a : Ask K)
    → same_ask cmp a a ≡ true
same_itself cmp total (ask.File p) = ap is_eq (tied_itself nat_list_cmp_total p)
same_itself cmp total (ask.Field i) = ap is_eq (tied_itself nat_cmp_total i)
same_itself cmp total (ask.Part k) = ap is_eq (tied_itself total k)

pub asks_exact : {K : Type 0} (cmp : K → K → Ordering) → IsTotalOrder cmp → CmpEqualImpliesEq cmp
    → IsExact (same_ask cmp)
asks_exact cmp total key = record { is = asks_same cmp key; itself = same_itself cmp total }

wanted_is : {K O : Type 0} (r : Result O (Halt K)) (asks : List (Ask K)) → wanted_in r ≡ Some asks
    → r ≡ Err (wants asks)
wanted_is (Ok r) asks e = absurd (cc)
wanted_is (Err (fails fault)) asks e = absurd (cc)
wanted_is (Err (wants as_)) asks e = let same : as_ ≡ asks = cc in ap (λ l. Err (wants l)) same

pub staged_is_lawful : {K O : Type 0} (cmp : K → K → Ordering) (c : Staged K O) → IsTotalOrder cmp
    → CmpEqualImpliesEq cmp → AreBounded c → AreLawful (meaning_of cmp c)
staged_is_lawful {K} {O} cmp c total key staged = record {
  is_new = λ k talk asks b a n h d g.
      let t : is_some (known_in (same_ask cmp) talk a) ≡ true =
      talk_has (same_ask cmp) (asks_exact cmp total key) talk b a d g in
      let e : is_some (known_in (same_ask cmp) talk a) ≡ false =
      wants_new (same_ask cmp) c.fits (known_in (same_ask cmp) talk) (c.stages k) asks
      (wanted_is (turned cmp c k talk) asks n) a h in
      absurd (cc);
  lower = λ k part talk asks n h.
      wants_lower (same_ask cmp) c.fits c.rank (c.rank k) (known_in (same_ask cmp) talk)
      (c.stages k) asks (staged.lower k) (wanted_is (turned cmp c k talk) asks n) (ask.Part part) h;
  falls = λ k talk b n s. left_falls (same_ask cmp) (asks_exact cmp total key) c.fits
      (known_in (same_ask cmp) talk) (known_in (same_ask cmp) (talk ++ b ∷ []))
      (talk_grows (same_ask cmp) talk b) (c.most k) (c.stages k) (asks_of b.pairs)
      (staged.within k) (wanted_is (turned cmp c k talk) (asks_of b.pairs) n)
      (talk_last (same_ask cmp) (asks_exact cmp total key) talk b);
}

-- at the end of a talk stands the value of the key
pub ends_ok : {K O : Type 0} (cmp : K → K → Ordering) (c : Staged K O) → IsTotalOrder cmp
    → CmpEqualImpliesEq cmp → AreBounded c → (k : K) (talk : List (Batch K O)) (r : O)
    → turned cmp c k talk ≡ Ok r
    → ((meaning_of cmp c).next k talk ≡ None)
    × ((w : World) → IsWorld (meaning_of cmp c) w → IsRight (meaning_of cmp c) w talk
    → (meaning_of cmp c).value k w ≡ Good r)
ends_ok {K} {O} cmp c total key staged k talk r e = (
  ap wanted_in e,
  λ w i h. value_is cmp c staged w k
      ∙ ap outcome_of (advance_run (same_ask cmp) c.fits (known_in (same_ask cmp) talk)
      (right (meaning_of cmp c) w)
      (talk_agrees (meaning_of cmp c) w (same_ask cmp) (asks_exact cmp total key) talk h)
      (c.stages k) r e),
)

pub ends_bad : {K O : Type 0} (cmp : K → K → Ordering) (c : Staged K O) → IsTotalOrder cmp
    → CmpEqualImpliesEq cmp → AreBounded c → (k : K) (talk : List (Batch K O)) (fault : Fault)
    → turned cmp c k talk ≡ Err (fails fault)
    → ((meaning_of cmp c).next k talk ≡ None)
    × ((w : World) → IsWorld (meaning_of cmp c) w → IsRight (meaning_of cmp c) w talk
    → (meaning_of cmp c).value k w ≡ Bad fault)
ends_bad {K} {O} cmp c total key staged k talk fault e = (
  ap wanted_in e,
  λ w i h. value_is cmp c staged w k
      ∙ ap outcome_of (advance_fails (same_ask cmp) c.fits (known_in (same_ask cmp) talk)
      (right (meaning_of cmp c) w)
      (talk_agrees (meaning_of cmp c) w (same_ask cmp) (asks_exact cmp total key) talk h)
      (c.stages k) fault e),
)

-- what is known is what the talk tells, and the key's function answered by it
pub is_turn_ok : {K O : Type 0} (cmp : K → K → Ordering) (c : Staged K O) → IsTotalOrder cmp
    → CmpEqualImpliesEq cmp → AreBounded c
    → (k : K) (talk : List (Batch K O)) (known : Known K O) (r : O)
    → known ≡ known_in (same_ask cmp) talk → advance (same_ask cmp) c.fits known (c.stages k) ≡ Ok r
    → IsTurn (meaning_of cmp c) k talk (turn.Done (Good r))
is_turn_ok {K} {O} cmp c total key bounded k talk known r e h =
    ends_ok cmp c total key bounded k talk r
    (subst (λ (f : Known K O). advance (same_ask cmp) c.fits f (c.stages k) ≡ Ok r) e h)

pub is_turn_bad : {K O : Type 0} (cmp : K → K → Ordering) (c : Staged K O) → IsTotalOrder cmp
    → CmpEqualImpliesEq cmp → AreBounded c
    → (k : K) (talk : List (Batch K O)) (known : Known K O) (fault : Fault)
    → known ≡ known_in (same_ask cmp) talk → advance (same_ask cmp) c.fits known (c.stages k)
    ≡ Err (fails fault) → IsTurn (meaning_of cmp c) k talk (turn.Done (Bad fault))
is_turn_bad {K} {O} cmp c total key bounded k talk known fault e h =
    ends_bad cmp c total key bounded k talk fault
    (subst (λ (f : Known K O). advance (same_ask cmp) c.fits f (c.stages k) ≡ Err (fails fault))
    e h)

pub is_turn_ask : {K O : Type 0} (cmp : K → K → Ordering) (c : Staged K O) (k : K)
    (talk : List (Batch K O)) (known : Known K O) (asks : List (Ask K)) (permit : Permit)
    → known ≡ known_in (same_ask cmp) talk → advance (same_ask cmp) c.fits known (c.stages k)
    ≡ Err (wants asks) → IsTurn (meaning_of cmp c) k talk (turn.Ask asks permit)
is_turn_ask {K} {O} cmp c k talk known asks permit e h =
    ap wanted_in
    (subst (λ (f : Known K O). advance (same_ask cmp) c.fits f (c.stages k) ≡ Err (wants asks))
    e h)
