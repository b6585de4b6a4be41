-- What stages give in a world, by this project's own form: it is determined by the answers that
-- they ask, and values that give it are the values of the rules.
use Rattle.std.proofs.Common.{sym, ◌∙◌, Result, ◌≡◌, ℕ, zero, suc, ◌≤◌, List, [], ◌∷◌, Some, None, Ok, Err, Bool, map, All, arith, refl, ap}
use Rattle.std.proofs.lemmas.List.Elements.{All-head, All-tail}
use Rattle.std.specs.declared.cmp.Ordering.{Ordering}
use Rattle.build_base.specs.First.{and_then}
use Rattle.build_base.specs.World.{World}
use Rattle.build_base.specs.declared.fault.Fault.{Fault}
use Rattle.step_engine.specs.Meaning.{right}
use Rattle.step_engine.specs.declared.talk.Ask.{Ask}
use Rattle.step_engine.specs.declared.talk.Ask.TheVariants as ask
use Rattle.step_engine.specs.declared.talk.Answer.{Answer}
use Rattle.step_engine.specs.declared.talk.Answer.TheVariants as answer
use Rattle.step_engine.specs.declared.talk.Outcome.{Outcome}
use Rattle.step_engine.specs.declared.talk.Outcome.TheVariants.{Bad}
use Rattle.build_stages.specs.Stages.{outcome_of, Stages, end, stage, Known, Fits, fails, impossible_answer, with_answers, first_stop, unless_stopped, run, cons_both, answered, missing, judged, gathered, advance, IsLower, AreLower, Staged, oracle, value_by, meaning_of, AreBounded}

-- what a key gives by right answers depends on those to asks of lower rank alone
maps_same : {K O : Type 0} (rank : K → ℕ) (bound : ℕ) (f g : Ask K → Answer O)
    → ((a : Ask K) → IsLower rank bound a → f a ≡ g a) → (asks : List (Ask K))
    → All (IsLower rank bound) asks → map f asks ≡ map g asks
maps_same rank bound f g e [] h = refl
maps_same {K} {O} rank bound f g e (a ∷ asks) h =
    let first : f a ≡ g a = e a (All-head (IsLower rank bound) a asks h) in
    let rest : map f asks ≡ map g asks =
    maps_same rank bound f g e asks (All-tail (IsLower rank bound) a asks h) in
    cc

pub run_same : {K O A : Type 0} (fits : Fits K O) (rank : K → ℕ) (bound : ℕ)
    (f g : Ask K → Answer O) → ((a : Ask K) → IsLower rank bound a → f a ≡ g a) → (s : Stages K O A)
    → AreLower rank bound s → run fits f s ≡ run fits g s
run_same fits rank bound f g e (end r) h = refl
run_same {K} {O} {A} fits rank bound f g e (stage asks next) h =
    rw (maps_same rank bound f g e asks h.0) (
    ap (λ (r : Result A Fault). unless_stopped (first_stop fits asks (map g asks)) Err r)
    (run_same fits rank bound f g e (next (with_answers asks (map g asks)))
    (h.1 (with_answers asks (map g asks)))))

-- so more falls of ranks than needed change nothing
stable_at : {K O : Type 0} (c : Staged K O) → AreBounded c → (n m : ℕ) (w : World) (k : K)
    → c.rank k ≤ n → c.rank k ≤ m → value_by c n w k ≡ value_by c m w k
unfolding value_by
stable_at {K} {O} c s zero zero w k le me = refl
stable_at {K} {O} c s zero (suc m) w k le me =
    ap outcome_of (run_same c.fits c.rank (c.rank k) (oracle (λ part. Bad impossible_answer) w)
    (oracle (value_by c m w) w)
    (elim [
      | ask.File p ↦ λ h. refl
      | ask.Field i ↦ λ h. refl
      | ask.Part part ↦ λ h.
          absurd (omega (arith, h, le))
    ])
    (c.stages k) (s.lower k))
stable_at {K} {O} c s (suc n) zero w k le me =
    ap outcome_of (run_same c.fits c.rank (c.rank k) (oracle (value_by c n w) w)
    (oracle (λ part. Bad impossible_answer) w)
    (elim [
      | ask.File p ↦ λ h. refl
      | ask.Field i ↦ λ h. refl
      | ask.Part part ↦ λ h.
          absurd (omega (arith, h, me))
    ])
    (c.stages k) (s.lower k))
stable_at {K} {O} c s (suc n) (suc m) w k le me =
    ap outcome_of (run_same c.fits c.rank (c.rank k) (oracle (value_by c n w) w)
    (oracle (value_by c m w) w)
    (elim [
      | ask.File p ↦ λ h. refl
      | ask.Field i ↦ λ h. refl
      | ask.Part part ↦ λ h.
          ap (λ (r : Outcome O). answer.Part r)
          (stable_at c s n m w part (omega (arith, h, le)) (omega (arith, h, me)))
    ])
    (c.stages k) (s.lower k))

-- the value of a key by the right answers of its world
value_at : {K O : Type 0} (cmp : K → K → Ordering) (c : Staged K O) → AreBounded c
    → (w : World) (k : K) (n : ℕ) → c.rank k ≤ n
    → value_by c n w k ≡ outcome_of (run c.fits (right (meaning_of cmp c) w) (c.stages k))
unfolding value_by
value_at {K} {O} cmp c s w k zero le =
    ap outcome_of (run_same c.fits c.rank (c.rank k) (oracle (λ part. Bad impossible_answer) w)
    (right (meaning_of cmp c) w)
    (elim [
      | ask.File p ↦ λ h. refl
      | ask.Field i ↦ λ h. refl
      | ask.Part part ↦ λ h.
          absurd (omega (arith, h, le))
    ])
    (c.stages k) (s.lower k))
value_at {K} {O} cmp c s w k (suc n) le =
    ap outcome_of (run_same c.fits c.rank (c.rank k) (oracle (value_by c n w) w)
    (right (meaning_of cmp c) w)
    (elim [
      | ask.File p ↦ λ h. refl
      | ask.Field i ↦ λ h. refl
      | ask.Part part ↦ λ h.
          ap (λ (r : Outcome O). answer.Part r)
          (stable_at c s n (c.rank part) w part (omega (arith, h, le)) (omega arith))
    ])
    (c.stages k) (s.lower k))

pub value_is : {K O : Type 0} (cmp : K → K → Ordering) (c : Staged K O) → AreBounded c
    → (w : World) (k : K)
    → (meaning_of cmp c).value k w ≡ outcome_of
    (run c.fits (right (meaning_of cmp c) w) (c.stages k))
value_is cmp c s w k = value_at cmp c s w k (c.rank k) (omega arith)

-- what is known agrees with the answers
abbrev pub Agrees : {K O : Type 0} → Known K O → (Ask K → Answer O) → Type 0
Agrees {K} {O} known f = (a : Ask K) (x : Answer O) → known a ≡ Some x → x ≡ f a

answered_map : {K O : Type 0} (known : Known K O) (f : Ask K → Answer O) → Agrees known f
    → (asks : List (Ask K)) (answers : List (Answer O)) → answered known asks ≡ Some answers
    → answers ≡ map f asks
answered_map known f g [] answers e = cc
answered_map {K} {O} known f g (a ∷ asks) answers e =
    (elim (known a) as (λ o. known a ≡ o → cons_both o (answered known asks) ≡ Some answers
    → answers ≡ map f (a ∷ asks)) [
      | None ↦ λ k e. absurd (cc)
      | Some x ↦ λ k e.
          (elim (answered known asks) as (λ r. answered known asks ≡ r
          → cons_both (Some x) r ≡ Some answers → answers ≡ map f (a ∷ asks)) [
            | None ↦ λ r e. absurd (cc)
            | Some xs ↦ λ r e. let first : x ≡ f a = g a x k in let rest : xs ≡ map f asks =
                answered_map known f g asks xs r in cc
          ]) refl e
    ]) refl e

-- at the end by known answers stands what right answers give
pub advance_run : {K O A : Type 0} (same : Ask K → Ask K → Bool) (fits : Fits K O)
    (known : Known K O) (f : Ask K → Answer O) → Agrees known f → (s : Stages K O A) (r : A)
    → advance same fits known s ≡ Ok r → run fits f s ≡ Ok r
advance_run same fits known f g (end (Ok x)) r e = let same : x ≡ r = cc in ap Ok same
advance_run same fits known f g (end (Err fault)) r e = absurd (cc)
advance_run {K} {O} {A} same fits known f g (stage asks next) r e =
    (elim (answered known asks) as (λ o. answered known asks ≡ o
    → and_then (gathered fits asks (missing same known asks) o)
    (λ given. advance same fits known (next given)) ≡ Ok r
    → run fits f (stage asks next) ≡ Ok r) [
      | None ↦ λ o e. absurd (cc)
      | Some answers ↦ λ o e.
          let is : answers ≡ map f asks = answered_map known f g asks answers o in
          (elim (first_stop fits asks answers)
          as (λ q. first_stop fits asks answers ≡ q
          → and_then (judged q (with_answers asks answers))
          (λ given. advance same fits known (next given)) ≡ Ok r
          → run fits f (stage asks next) ≡ Ok r) [
            | Some fault ↦ λ q e. absurd (cc)
            | None ↦ λ q e.
                let h : run fits f (next (with_answers asks answers)) ≡ Ok r =
                advance_run same fits known f g (next (with_answers asks answers)) r e in
                rw (← is) (rw q h)
          ]) refl e
    ]) refl e

pub advance_fails : {K O A : Type 0} (same : Ask K → Ask K → Bool) (fits : Fits K O)
    (known : Known K O) (f : Ask K → Answer O) → Agrees known f → (s : Stages K O A) (fault : Fault)
    → advance same fits known s ≡ Err (fails fault) → run fits f s ≡ Err fault
advance_fails same fits known f g (end (Ok x)) fault e = absurd (cc)
advance_fails same fits known f g (end (Err other)) fault e =
    let same : other ≡ fault = cc in ap Err same
advance_fails {K} {O} {A} same fits known f g (stage asks next) fault e =
    (elim (answered known asks) as (λ o. answered known asks ≡ o
    → and_then (gathered fits asks (missing same known asks) o)
    (λ given. advance same fits known (next given)) ≡ Err (fails fault)
    → run fits f (stage asks next) ≡ Err fault) [
      | None ↦ λ o e. absurd (cc)
      | Some answers ↦ λ o e.
          let is : answers ≡ map f asks = answered_map known f g asks answers o in
          (elim (first_stop fits asks answers)
          as (λ q. first_stop fits asks answers ≡ q
          → and_then (judged q (with_answers asks answers))
          (λ given. advance same fits known (next given)) ≡ Err (fails fault)
          → run fits f (stage asks next) ≡ Err fault) [
            | Some other ↦ λ q e. let same : other ≡ fault = cc in rw (← is) (rw q (rw same refl))
            | None ↦ λ q e.
                let h : run fits f (next (with_answers asks answers)) ≡ Err fault =
                advance_fails same fits known f g (next (with_answers asks answers)) fault e in
                rw (← is) (rw q h)
          ]) refl e
    ]) refl e

-- Values that give what their stages give by them are the values: definitions written without
-- stages need this equation alone.
unique_at : {K O : Type 0} (c : Staged K O) → AreBounded c → (v : K → Outcome O) (w : World)
    → ((k : K) → v k ≡ outcome_of (run c.fits (oracle v w) (c.stages k))) → (n : ℕ) (k : K)
    → c.rank k ≤ n → value_by c n w k ≡ v k
unfolding value_by
unique_at {K} {O} c s v w e zero k le =
    ap outcome_of
    (run_same c.fits c.rank (c.rank k) (oracle (λ part. Bad impossible_answer) w) (oracle v w)
    (elim [
      | ask.File p ↦ λ h. refl
      | ask.Field i ↦ λ h. refl
      | ask.Part part ↦ λ h.
          absurd (omega (arith, h, le))
    ])
    (c.stages k) (s.lower k))
    ∙ sym (e k)
unique_at {K} {O} c s v w e (suc n) k le =
    ap outcome_of (run_same c.fits c.rank (c.rank k) (oracle (value_by c n w) w) (oracle v w)
    (elim [
      | ask.File p ↦ λ h. refl
      | ask.Field i ↦ λ h. refl
      | ask.Part part ↦ λ h.
          ap (λ (r : Outcome O). answer.Part r) (unique_at c s v w e n part (omega (arith, h, le)))
    ])
    (c.stages k) (s.lower k))
    ∙ sym (e k)

pub value_unique : {K O : Type 0} (cmp : K → K → Ordering) (c : Staged K O) → AreBounded c
    → (v : K → Outcome O) (w : World)
    → ((k : K) → v k ≡ outcome_of (run c.fits (oracle v w) (c.stages k))) → (k : K)
    → (meaning_of cmp c).value k w ≡ v k
value_unique cmp c s v w e k = unique_at c s v w e (c.rank k) k (omega arith)
