-- By this project's own form of steps: the asks of a turn are new and of lower rank, and a number
-- falls.
use Rattle.std.proofs.Common.{Ok, ◌≡◌, ◌⊎◌, inl, inr, ℕ, zero, suc, ◌≤◌, ◌<◌, ◌-◌, ◌++◌, List, [], ◌∷◌, Some, None, Err, Bool, true, false, cond, All, Contains, arith, refl, sym, ap, ◌∙◌, subst, append_assoc}
use Rattle.std.proofs.lemmas.List.Elements.{All-head, All-tail, All-append, All-nil}
use Rattle.build_base.specs.First.{and_then}
use Rattle.build_base.specs.World.{World}
use Rattle.step_engine.specs.Meaning.{Meaning, right, asks_of, AreRight, IsRight}
use Rattle.step_engine.specs.declared.talk.Ask.{Ask}
use Rattle.step_engine.specs.declared.talk.Answer.{Answer}
use Rattle.step_engine.specs.declared.talk.Pair.{Pair}
use Rattle.step_engine.specs.declared.talk.Batch.{Batch}
use Rattle.std.specs.Option.{is_some}
use Rattle.build_stages.specs.Stages.{Stages, end, stage, with_answers, Known, Fits, wants, first_stop, unless_stopped, cons_both, answered, either, unseen, missing, judged, gathered, advance, known_pairs, all_pairs, known_in, IsLower, AreLower, IsWithin, left_with, left_at}
use Rattle.build_stages.specs.StagesLaws.{Agrees}

-- two asks are the same exactly where the test says so
pub record IsExact {A : Type 0} (same : A → A → Bool) : Type 0 where
  pub is : (a b : A) → same a b ≡ true → a ≡ b
  pub itself : (a : A) → same a a ≡ true

no_elements : {A : Type 0} (a : A) → Contains [] a → ⊥
no_elements a c = absurd (omega (arith, c.1))

cons_cases : {A : Type 0} (x : A) (xs : List A) (a : A) → Contains (x ∷ xs) a
    → (x ≡ a) ⊎ Contains xs a
cons_cases x xs a (zero, l, e) = inl e
cons_cases x xs a (suc i, l, e) = inr (i, omega (arith, l), e)

cons_here : {A : Type 0} (x : A) (xs : List A) (a : A) → x ≡ a → Contains (x ∷ xs) a
cons_here x xs a e = (zero, omega arith, e)

cons_there : {A : Type 0} (x : A) (xs : List A) (a : A) → Contains xs a → Contains (x ∷ xs) a
cons_there x xs a (i, l, e) = (suc i, omega (arith, l), e)

either_false : (a b : Bool) → either a b ≡ false → b ≡ false
either_false true b e = absurd (cc)
either_false false b e = e

either_true : (a b : Bool) → either a b ≡ true → (a ≡ true) ⊎ (b ≡ true)
either_true true b e = inl refl
either_true false b e = inr e

-- what hasn't been seen
unseen_new : {K : Type 0} (same : Ask K → Ask K → Bool) (seen : Ask K → Bool) (asks : List (Ask K))
    (a : Ask K) → Contains (unseen same seen asks) a → seen a ≡ false
unseen_new same seen [] a c = absurd (no_elements a c)
unseen_new {K} same seen (x ∷ asks) a c =
    (elim (seen x) as (λ b. seen x ≡ b
    → Contains (cond b (unseen same seen asks)
    (x ∷ unseen same (λ b. either (same b x) (seen b)) asks)) a → seen a ≡ false) [
      | true ↦ λ e c. unseen_new same seen asks a c
      | false ↦ λ e c.
          (elim (cons_cases x (unseen same (λ b. either (same b x) (seen b)) asks) a c)
          as (λ _. seen a ≡ false) [
            | inl h ↦ subst (λ (y : Ask K). seen y ≡ false) h e
            | inr h ↦ either_false (same a x) (seen a)
                (unseen_new same (λ b. either (same b x) (seen b)) asks a h)
          ])
    ]) refl c

unseen_keeps : {K : Type 0} (P : Ask K → Type 0) (same : Ask K → Ask K → Bool) (seen : Ask K → Bool)
    (asks : List (Ask K)) → All P asks → (a : Ask K) → Contains (unseen same seen asks) a → P a
unseen_keeps P same seen [] h a c = absurd (no_elements a c)
unseen_keeps {K} P same seen (x ∷ asks) h a c =
    (elim (seen x)
    as (λ b.
    Contains (cond b (unseen same seen asks)
    (x ∷ unseen same (λ b. either (same b x) (seen b)) asks)) a → P a) [
      | true ↦ λ c. unseen_keeps P same seen asks (All-tail P x asks h) a c
      | false ↦ λ c.
          (elim (cons_cases x (unseen same (λ b. either (same b x) (seen b)) asks) a c)
          as (λ _. P a) [
            | inl e ↦ subst P e (All-head P x asks h)
            | inr d ↦ unseen_keeps P same (λ b. either (same b x) (seen b)) asks (All-tail P x asks h) a
                d
          ])
    ]) c

unseen_all : {K : Type 0} (same : Ask K → Ask K → Bool) → IsExact same
    → (seen : Ask K → Bool) (asks : List (Ask K)) (a : Ask K) → Contains asks a
    → (seen a ≡ true) ⊎ Contains (unseen same seen asks) a
unseen_all same exact seen [] a c = absurd (no_elements a c)
unseen_all {K} same exact seen (x ∷ asks) a c =
    let later : Ask K → Bool = λ b. either (same b x) (seen b) in
    (elim (seen x) as (λ b. seen x ≡ b → (seen a ≡ true)
    ⊎ Contains (cond b (unseen same seen asks) (x ∷ unseen same later asks)) a) [
      | true ↦ λ e.
          (elim (cons_cases x asks a c) as (λ _. (seen a ≡ true)
          ⊎ Contains (unseen same seen asks) a) [
            | inl h ↦ inl (subst (λ (y : Ask K). seen y ≡ true) h e)
            | inr h ↦ unseen_all same exact seen asks a h
          ])
      | false ↦ λ e.
          (elim (cons_cases x asks a c) as (λ _. (seen a ≡ true)
          ⊎ Contains (x ∷ unseen same later asks) a) [
            | inl h ↦ inr (cons_here x (unseen same later asks) a h)
            | inr h ↦ (elim (unseen_all same exact later asks a h)
                as (λ _. (seen a ≡ true) ⊎ Contains (x ∷ unseen same later asks) a) [
                  | inl t ↦ (elim (either_true (same a x) (seen a) t)
                      as (λ _. (seen a ≡ true) ⊎ Contains (x ∷ unseen same later asks) a) [
                        | inl s ↦ inr (cons_here x (unseen same later asks) a (sym (exact.is a x s)))
                        | inr s ↦ inl s
                      ])
                  | inr d ↦ inr (cons_there x (unseen same later asks) a d)
                ])
          ])
    ]) refl

-- what a turn wants
pub wants_new : {K O A : Type 0} (same : Ask K → Ask K → Bool) (fits : Fits K O) (known : Known K O)
    (s : Stages K O A) (asks : List (Ask K)) → advance same fits known s ≡ Err (wants asks)
    → (a : Ask K) → Contains asks a → is_some (known a) ≡ false
wants_new same fits known (end (Ok out)) asks e a c = absurd (cc)
wants_new same fits known (end (Err fault)) asks e a c = absurd (cc)
wants_new {K} {O} {A} same fits known (stage here next) asks e a c =
    (elim (answered known here)
    as (λ o. and_then (gathered fits here (missing same known here) o)
    (λ given. advance same fits known (next given)) ≡ Err (wants asks)
    → is_some (known a) ≡ false) [
      | None ↦ λ e. let is : missing same known here ≡ asks =
          cc in unseen_new same (λ a. is_some (known a)) here a
          (subst (λ (l : List (Ask K)). Contains l a) (sym is) c)
      | Some answers ↦ λ e.
          (elim (first_stop fits here answers)
          as (λ q. and_then (judged q (with_answers here answers))
          (λ given. advance same fits known (next given)) ≡ Err (wants asks) → is_some (known a) ≡ false) [
            | Some fault ↦ λ e. absurd (cc)
            | None ↦ λ e. wants_new same fits known (next (with_answers here answers)) asks e a c
          ]) e
    ]) e

pub wants_lower : {K O A : Type 0} (same : Ask K → Ask K → Bool) (fits : Fits K O) (rank : K → ℕ)
    (bound : ℕ) (known : Known K O) (s : Stages K O A) (asks : List (Ask K)) → AreLower rank bound s
    → advance same fits known s ≡ Err (wants asks) → (a : Ask K) → Contains asks a
    → IsLower rank bound a
wants_lower same fits rank bound known (end (Ok out)) asks l e a c = absurd (cc)
wants_lower same fits rank bound known (end (Err fault)) asks l e a c = absurd (cc)
wants_lower {K} {O} {A} same fits rank bound known (stage here next) asks l e a c =
    (elim (answered known here)
    as (λ o. and_then (gathered fits here (missing same known here) o)
    (λ given. advance same fits known (next given)) ≡ Err (wants asks)
    → IsLower rank bound a) [
      | None ↦ λ e. let is : missing same known here ≡ asks =
          cc in unseen_keeps (IsLower rank bound) same (λ a. is_some (known a)) here l.0 a
          (subst (λ (l : List (Ask K)). Contains l a) (sym is) c)
      | Some answers ↦ λ e.
          (elim (first_stop fits here answers)
          as (λ q. and_then (judged q (with_answers here answers))
          (λ given. advance same fits known (next given)) ≡ Err (wants asks) → IsLower rank bound a) [
            | Some fault ↦ λ e. absurd (cc)
            | None ↦ λ e.
                wants_lower same fits rank bound known (next (with_answers here answers)) asks
                (l.1 (with_answers here answers)) e a c
          ]) e
    ]) e

-- what is known of a talk
append_grows : {K O : Type 0} (same : Ask K → Ask K → Bool) (ps qs : List (Pair K O)) (a : Ask K)
    (x : Answer O) → known_pairs same ps a ≡ Some x → known_pairs same (ps ++ qs) a ≡ Some x
append_grows same [] qs a x e = absurd (cc)
append_grows {K} {O} same (p ∷ ps) qs a x e =
    (elim (same a p.ask) as (λ b. cond b (Some p.answer) (known_pairs same ps a) ≡ Some x
    → cond b (Some p.answer) (known_pairs same (ps ++ qs) a) ≡ Some x) [
      | true ↦ λ e. e
      | false ↦ λ e. append_grows same ps qs a x e
    ]) e

append_has : {K O : Type 0} (same : Ask K → Ask K → Bool) (ps qs : List (Pair K O)) (a : Ask K)
    → is_some (known_pairs same qs a) ≡ true → is_some (known_pairs same (ps ++ qs) a) ≡ true
append_has same [] qs a e = e
append_has {K} {O} same (p ∷ ps) qs a e =
    (elim (same a p.ask) as (λ b. is_some (cond b (Some p.answer) (known_pairs same (ps ++ qs) a))
    ≡ true) [
      | true ↦ refl
      | false ↦ append_has same ps qs a e
    ])

has_left : {K O : Type 0} (same : Ask K → Ask K → Bool) (ps qs : List (Pair K O)) (a : Ask K)
    → is_some (known_pairs same ps a) ≡ true → is_some (known_pairs same (ps ++ qs) a) ≡ true
has_left same [] qs a e = absurd (cc)
has_left {K} {O} same (p ∷ ps) qs a e =
    (elim (same a p.ask) as (λ b. is_some (cond b (Some p.answer) (known_pairs same ps a)) ≡ true
    → is_some (cond b (Some p.answer) (known_pairs same (ps ++ qs) a)) ≡ true) [
      | true ↦ λ e. refl
      | false ↦ λ e. has_left same ps qs a e
    ]) e

pairs_have : {K O : Type 0} (same : Ask K → Ask K → Bool) → IsExact same
    → (ps : List (Pair K O)) (a : Ask K) → Contains (asks_of ps) a
    → is_some (known_pairs same ps a) ≡ true
pairs_have same exact [] a c = absurd (no_elements a c)
pairs_have {K} {O} same exact (p ∷ ps) a c =
    (elim (same a p.ask) as (λ b. same a p.ask ≡ b
    → is_some (cond b (Some p.answer) (known_pairs same ps a)) ≡ true) [
      | true ↦ λ e. refl
      | false ↦ λ e.
          (elim (cons_cases p.ask (asks_of ps) a c) as (λ _. is_some (known_pairs same ps a) ≡ true) [
            | inl h ↦ absurd (let t : same a p.ask ≡ true = rw h (exact.itself a) in cc)
            | inr h ↦ pairs_have same exact ps a h
          ])
    ]) refl

pub talk_has : {K O : Type 0} (same : Ask K → Ask K → Bool) → IsExact same
    → (talk : List (Batch K O)) (b : Batch K O) (a : Ask K) → Contains talk b
    → Contains (asks_of b.pairs) a → is_some (known_in same talk a) ≡ true
talk_has same exact [] b a c d = absurd (no_elements b c)
talk_has {K} {O} same exact (x ∷ talk) b a c d =
    elim (cons_cases x talk b c)
    as (λ _. is_some (known_pairs same (x.pairs ++ all_pairs talk) a) ≡ true) [
      | inl e ↦ has_left same x.pairs (all_pairs talk) a
          (pairs_have same exact x.pairs a
          (subst (λ (y : Batch K O). Contains (asks_of y.pairs) a) (sym e) d))
      | inr h ↦ append_has same x.pairs (all_pairs talk) a (talk_has same exact talk b a h d)
    ]

none_behind : {A : Type 0} (xs : List A) → xs ++ [] ≡ xs
none_behind [] = refl
none_behind {A} (x ∷ xs) = ap (λ (l : List A). x ∷ l) (none_behind xs)

pub all_append : {K O : Type 0} (talk : List (Batch K O)) (b : Batch K O)
    → all_pairs (talk ++ b ∷ []) ≡ all_pairs talk ++ b.pairs
all_append [] b = none_behind b.pairs
all_append {K} {O} (x ∷ talk) b =
    ap (λ (l : List (Pair K O)). x.pairs ++ l) (all_append talk b)
    ∙ sym (append_assoc x.pairs (all_pairs talk) b.pairs)

-- what is known is known after one batch more
abbrev pub Grows : {K O : Type 0} → Known K O → Known K O → Type 0
Grows {K} {O} known known' = (a : Ask K) (x : Answer O) → known a ≡ Some x → known' a ≡ Some x

pub talk_grows : {K O : Type 0} (same : Ask K → Ask K → Bool) (talk : List (Batch K O))
    (b : Batch K O) → Grows (known_in same talk) (known_in same (talk ++ b ∷ []))
talk_grows {K} {O} same talk b a x e =
    rw (all_append talk b) (append_grows same (all_pairs talk) b.pairs a x e)

pub talk_last : {K O : Type 0} (same : Ask K → Ask K → Bool) → IsExact same
    → (talk : List (Batch K O)) (b : Batch K O) (a : Ask K) → Contains (asks_of b.pairs) a
    → is_some (known_in same (talk ++ b ∷ []) a) ≡ true
talk_last {K} {O} same exact talk b a c =
    rw (all_append talk b)
    (append_has same (all_pairs talk) b.pairs a (pairs_have same exact b.pairs a c))

answered_grows : {K O : Type 0} (known known' : Known K O) → Grows known known'
    → (asks : List (Ask K)) (answers : List (Answer O)) → answered known asks ≡ Some answers
    → answered known' asks ≡ Some answers
answered_grows known known' g [] answers e = e
answered_grows {K} {O} known known' g (a ∷ asks) answers e =
    (elim (known a) as (λ o. known a ≡ o → cons_both o (answered known asks) ≡ Some answers
    → answered known' (a ∷ asks) ≡ Some answers) [
      | None ↦ λ k e. absurd (cc)
      | Some x ↦ λ k e.
          (elim (answered known asks) as (λ r. answered known asks ≡ r
          → cons_both (Some x) r ≡ Some answers → answered known' (a ∷ asks) ≡ Some answers) [
            | None ↦ λ r e. absurd (cc)
            | Some xs ↦ λ r e. let first : known' a ≡ Some x =
                g a x k in let rest : answered known' asks ≡ Some xs =
                answered_grows known known' g asks xs r in rw (first, rest) e
          ]) refl e
    ]) refl e

answered_all : {K O : Type 0} (known : Known K O) (asks : List (Ask K))
    → ((a : Ask K) → Contains asks a → is_some (known a) ≡ true) → answered known asks ≡ None → ⊥
answered_all known [] h e = absurd (cc)
answered_all {K} {O} known (a ∷ asks) h e =
    (elim (known a) as (λ o. known a ≡ o → cons_both o (answered known asks) ≡ None → ⊥) [
      | None ↦ λ k e. absurd (let t : is_some (known a) ≡ true =
          h a (cons_here a asks a refl) in let f : is_some (known a) ≡ false = rw k refl in cc)
      | Some x ↦ λ k e.
          (elim (answered known asks) as (λ r. answered known asks ≡ r → cons_both (Some x) r ≡ None
          → ⊥) [
            | None ↦ λ r e. answered_all known asks (λ b c. h b (cons_there a asks b c)) r
            | Some xs ↦ λ r e. absurd (cc)
          ]) refl e
    ]) refl e

-- after the answers to what was missing, all are known
asks_known : {K O : Type 0} (same : Ask K → Ask K → Bool) → IsExact same
    → (known known' : Known K O) → Grows known known' → (asks : List (Ask K))
    → ((a : Ask K) → Contains (missing same known asks) a → is_some (known' a) ≡ true) → (a : Ask K)
    → Contains asks a → is_some (known' a) ≡ true
asks_known {K} {O} same exact known known' g asks h a c =
    elim (unseen_all same exact (λ a. is_some (known a)) asks a c)
    as (λ _. is_some (known' a) ≡ true) [
      | inl t ↦ (elim (known a) as (λ o. known a ≡ o → is_some o ≡ true → is_some (known' a) ≡ true) [
        | None ↦ λ k t. absurd (cc)
        | Some x ↦ λ k t. let e : known' a ≡ Some x = g a x k in rw e refl
      ]) refl t
      | inr d ↦ h a d
    ]

left_most : {K O A : Type 0} (fits : Fits K O) (known : Known K O) (n : ℕ) (s : Stages K O A)
    → left_at fits known n s ≤ n
left_most fits known n (end r) = omega arith
left_most {K} {O} {A} fits known n (stage asks next) =
    elim (answered known asks)
    as (λ o. left_with fits n asks (λ answers. left_at fits known (n - 1) (next (with_answers asks answers))) o ≤ n) [
      | None ↦ omega arith
      | Some answers ↦
          (elim (first_stop fits asks answers)
          as (λ q. unless_stopped q (λ fault. 0) (left_at fits known (n - 1) (next (with_answers asks answers))) ≤ n) [
            | Some fault ↦ omega arith
            | None ↦ let h : left_at fits known (n - 1) (next (with_answers asks answers)) ≤ n - 1 =
                left_most fits known (n - 1) (next (with_answers asks answers)) in omega (arith, h)
          ])
    ]

-- the number falls with each batch that is answered
pub left_falls : {K O A : Type 0} (same : Ask K → Ask K → Bool) → IsExact same
    → (fits : Fits K O) (known known' : Known K O) → Grows known known'
    → (n : ℕ) (s : Stages K O A) (asks : List (Ask K)) → IsWithin n s
    → advance same fits known s ≡ Err (wants asks)
    → ((a : Ask K) → Contains asks a → is_some (known' a) ≡ true)
    → left_at fits known' n s < left_at fits known n s
left_falls same exact fits known known' g n (end (Ok out)) asks w e h = absurd (cc)
left_falls same exact fits known known' g n (end (Err fault)) asks w e h = absurd (cc)
left_falls {K} {O} {A} same exact fits known known' g n (stage here next) asks w e h =
    let rest : Known K O → List (Answer O) → ℕ =
    λ k answers. left_at fits k (n - 1) (next (with_answers here answers)) in
    (elim (answered known here) as (λ o. answered known here ≡ o
    → and_then (gathered fits here (missing same known here) o)
    (λ given. advance same fits known (next given)) ≡ Err (wants asks)
    → left_with fits n here (rest known') (answered known' here)
    < left_with fits n here (rest known) o) [
      | None ↦ λ o e.
          let is : missing same known here ≡ asks = cc in
          (elim (answered known' here) as (λ p. answered known' here ≡ p
          → left_with fits n here (rest known') p < n) [
            | None ↦ λ p.
                absurd
                (answered_all known' here
                (asks_known same exact known known' g here
                (λ a c. h a (subst (λ (l : List (Ask K)). Contains l a) is c))) p)
            | Some answers ↦ λ p.
                (elim (first_stop fits here answers)
                as (λ q. unless_stopped q (λ fault. 0) (rest known' answers) < n) [
                  | Some fault ↦ w.0
                  | None ↦
                      let m : left_at fits known' (n - 1) (next (with_answers here answers)) ≤ n - 1 =
                      left_most fits known' (n - 1) (next (with_answers here answers)) in
                      let some : 0 < n = w.0 in omega (arith, m, some)
                ])
          ]) refl
      | Some answers ↦ λ o e. rw (answered_grows known known' g here answers o) (
          (elim (first_stop fits here answers)
          as (λ q. first_stop fits here answers ≡ q
          → and_then (judged q (with_answers here answers))
          (λ given. advance same fits known (next given)) ≡ Err (wants asks) → unless_stopped q (λ fault. 0) (rest known' answers)
          < unless_stopped q (λ fault. 0) (rest known answers)) [
            | Some fault ↦ λ q e. absurd (cc)
            | None ↦ λ q e. left_falls same exact fits known known' g (n - 1)
                (next (with_answers here answers)) asks (w.1 (with_answers here answers)) e h
          ]) refl e)
    ]) refl e

-- what is known of right answers is right
pairs_agree : {K O : Type 0} (m : Meaning K O) (w : World) (same : Ask K → Ask K → Bool)
    → IsExact same → (ps : List (Pair K O)) → AreRight m w ps
    → Agrees (known_pairs same ps) (right m w)
pairs_agree m w same exact [] r a x e = absurd (cc)
pairs_agree {K} {O} m w same exact (p ∷ ps) r a x e =
    let P : Pair K O → Type 0 = λ p. p.answer ≡ right m w p.ask in
    (elim (same a p.ask) as (λ b. same a p.ask ≡ b
    → cond b (Some p.answer) (known_pairs same ps a) ≡ Some x → x ≡ right m w a) [
      | true ↦ λ t e. let is : p.answer ≡ x = cc
          in sym is ∙ (All-head P p ps r ∙ ap (right m w) (sym (exact.is a p.ask t)))
      | false ↦ λ t e. pairs_agree m w same exact ps (All-tail P p ps r) a x e
    ]) refl e

all_right : {K O : Type 0} (m : Meaning K O) (w : World) (talk : List (Batch K O))
    → IsRight m w talk → AreRight m w (all_pairs talk)
all_right {K} {O} m w [] r = All-nil (λ (p : Pair K O). p.answer ≡ right m w p.ask)
all_right {K} {O} m w (b ∷ talk) r =
    let P : Batch K O → Type 0 = λ b. AreRight m w b.pairs in
    All-append (λ (p : Pair K O). p.answer ≡ right m w p.ask) b.pairs (all_pairs talk)
    (All-head P b talk r) (all_right m w talk (All-tail P b talk r))

pub talk_agrees : {K O : Type 0} (m : Meaning K O) (w : World) (same : Ask K → Ask K → Bool)
    → IsExact same → (talk : List (Batch K O)) → IsRight m w talk
    → Agrees (known_in same talk) (right m w)
talk_agrees m w same exact talk r =
    pairs_agree m w same exact (all_pairs talk) (all_right m w talk r)
