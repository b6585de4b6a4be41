-- What the stages of the whole build reach in a world is asked in its talk.
use Rattle.std.proofs.Common.{◌≡◌, ◌⊎◌, inl, inr, zero, suc, true, false, cond, List, [], ◌∷◌, map, Option, Some, None, Contains, arith, refl, sym, ap, ◌∙◌, subst}
use Rattle.std.proofs.lemmas.List.{map-append}
use Rattle.std.proofs.lemmas.List.Elements.{All-nil, Contains-append_cases}
use Rattle.std.specs.Option.{is_some}
use Rattle.build_base.specs.First.{and_then}
use Rattle.build_base.specs.World.{World}
use Rattle.build_base.specs.declared.fault.Fault.{Fault}
use Rattle.step_engine.specs.Engine.{IsNext}
use Rattle.step_engine.specs.Meaning.{right, asks_of, AreRight, Asks}
use Rattle.step_engine.specs.declared.talk.Ask.{Ask}
use Rattle.step_engine.specs.declared.talk.Ask.TheVariants as ask
use Rattle.step_engine.specs.declared.talk.Answer.{Answer}
use Rattle.step_engine.specs.declared.talk.Batch.{Batch}
use Rattle.step_engine.specs.declared.talk.Pair.{Pair}
use Rattle.step_engine.proofs.Talks.{next_asked}
use Rattle.build_stages.specs.Asks.{same_ask}
use Rattle.build_stages.specs.Stages.{end, stage, with_answers, Known, first_stop, cons_both, answered, missing, judged, gathered, advance, known_pairs, all_pairs, known_in, wanted_in, meaning_of}
use Rattle.build_stages.specs.StagesLaws.{Agrees}
use Rattle.build_stages.specs.StagesRules.{staged_is_lawful, asks_exact}
use Rattle.build_stages.specs.StagesTurns.{talk_agrees}
use Rattle.step_pack.specs.KeyLaws.{keys_total, keys_exact}
use Rattle.step_pack.specs.Keys.{key_cmp}
use Rattle.step_pack.specs.declared.key.Key.{Key}
use Rattle.step_pack.specs.declared.key.Key.TheVariants as key
use Rattle.step_pack.specs.declared.out.Out.{Out}
use Rattle.step_answers.specs.Fits.{fits}
use Rattle.step_answers.specs.Readers.{EdkStages}
use Rattle.output_steps.specs.AllTree.{all_asks, all_stages}
use Rattle.build_rules.specs.Rules.{edk}
use Rattle.build_rules.specs.RulesBounds.{edk_is_bounded}
use Rattle.build_rules.proofs.Asked.{answers_in, given_in, fault_asked}
use Rattle.build_rules.proofs.KindLemmas.{stop_is}

-- in the stages this is asked in a world
abbrev pub Reaches : World → Ask Key → EdkStages → Type 0
Reaches w a (end r) = ⊥
Reaches w a (stage asks next) = Contains asks a ⊎ ((fault_asked w asks ≡ None) × Reaches w a (next (given_in w asks)))

nothing : {A : Type 0} (a : A) → Contains [] a → ⊥
nothing a c = absurd (omega (arith, c.1))

here : {A : Type 0} (x : A) (xs : List A) (a : A) → x ≡ a → Contains (x ∷ xs) a
here x xs a e = (zero, omega arith, e)

there : {A : Type 0} (x : A) (xs : List A) (a : A) → Contains xs a → Contains (x ∷ xs) a
there x xs a (i, l, e) = (suc i, omega (arith, l), e)

either_in : {A : Type 0} (x : A) (xs : List A) (a : A) → Contains (x ∷ xs) a → (x ≡ a) ⊎ Contains xs a
either_in x xs a (zero, l, e) = inl e
either_in x xs a (suc i, l, e) = inr (i, omega (arith, l), e)

-- what is answered is known, and is right

answered_known : (known : Known Key Out) (asks : List (Ask Key)) (answers : List (Answer Out)) → answered known asks ≡ Some answers → (a : Ask Key) → Contains asks a → is_some (known a) ≡ true
answered_known known [] answers e a c = absurd (nothing a c)
answered_known known (x ∷ asks) answers e a c =
    (elim (known x) as (λ o. known x ≡ o → cons_both o (answered known asks) ≡ Some answers → is_some (known a) ≡ true) [
      | None ↦ λ k e. absurd (cc)
      | Some y ↦ λ k e.
          (elim (answered known asks) as (λ r. answered known asks ≡ r → cons_both (Some y) r ≡ Some answers → is_some (known a) ≡ true) [
            | None ↦ λ r e. absurd (cc)
            | Some ys ↦ λ r e.
                (elim (either_in x asks a c) as (λ _. is_some (known a) ≡ true) [
                  | inl same ↦ ap (λ (b : Ask Key). is_some (known b)) (sym same) ∙ ap (λ (o : Option (Answer Out)). is_some o) k
                  | inr d ↦ answered_known known asks ys r a d
                ])
          ]) refl e
    ]) refl e

answered_right : (known : Known Key Out) (f : Ask Key → Answer Out) → Agrees known f → (asks : List (Ask Key)) (answers : List (Answer Out)) → answered known asks ≡ Some answers → answers ≡ map f asks
answered_right known f g [] answers e = cc
answered_right known f g (a ∷ asks) answers e =
    (elim (known a) as (λ o. known a ≡ o → cons_both o (answered known asks) ≡ Some answers → answers ≡ map f (a ∷ asks)) [
      | None ↦ λ k e. absurd (cc)
      | Some x ↦ λ k e.
          (elim (answered known asks) as (λ r. answered known asks ≡ r → cons_both (Some x) r ≡ Some answers → answers ≡ map f (a ∷ asks)) [
            | None ↦ λ r e. absurd (cc)
            | Some xs ↦ λ r e. let first : x ≡ f a = g a x k in let rest : xs ≡ map f asks = answered_right known f g asks xs r in cc
          ]) refl e
    ]) refl e

no_stop : (w : World) (asks : List (Ask Key)) → fault_asked w asks ≡ None → first_stop fits asks (answers_in w asks) ≡ None
unfolding fault_asked
no_stop w asks e = stop_is w asks ∙ e

reached_known : (w : World) (known : Known Key Out) (a : Ask Key) → Agrees known (right (meaning_of key_cmp edk) w) → (s : EdkStages) → wanted_in (advance (same_ask key_cmp) fits known s) ≡ None → Reaches w a s
    → is_some (known a) ≡ true
reached_known w known a g (end r) e h = absurd h
reached_known w known a g (stage asks next) e h =
    (elim (answered known asks) as (λ o. answered known asks ≡ o
    → wanted_in (and_then (gathered fits asks (missing (same_ask key_cmp) known asks) o) (λ given. advance (same_ask key_cmp) fits known (next given))) ≡ None → is_some (known a) ≡ true) [
      | None ↦ λ o e. absurd (cc)
      | Some answers ↦ λ o e.
          (elim h as (λ _. is_some (known a) ≡ true) [
            | inl c ↦ answered_known known asks answers o a c
            | inr q ↦
                let is : answers ≡ answers_in w asks = answered_right known (right (meaning_of key_cmp edk) w) g asks answers o in
                let goes : (l : List (Answer Out)) → answers ≡ l → wanted_in (and_then (judged (first_stop fits asks l) (with_answers asks l)) (λ given. advance (same_ask key_cmp) fits known (next given))) ≡ None =
                λ l i. subst (λ (l : List (Answer Out)). wanted_in (and_then (judged (first_stop fits asks l) (with_answers asks l)) (λ given. advance (same_ask key_cmp) fits known (next given))) ≡ None) i e in
                let none : first_stop fits asks (answers_in w asks) ≡ None = no_stop w asks q.0 in
                let goes_on : wanted_in (advance (same_ask key_cmp) fits known (next (given_in w asks))) ≡ None =
                subst (λ (t : Option Fault). wanted_in (and_then (judged t (given_in w asks)) (λ given. advance (same_ask key_cmp) fits known (next given))) ≡ None) none (goes (answers_in w asks) is) in
                reached_known w known a g (next (given_in w asks)) goes_on q.1
          ])
    ]) refl e

-- what is known of a talk stands in it

pairs_hold : (ps : List (Pair Key Out)) (a : Ask Key) → is_some (known_pairs (same_ask key_cmp) ps a) ≡ true → Contains (asks_of ps) a
pairs_hold [] a e = absurd (cc)
pairs_hold (p ∷ ps) a e =
    (elim (same_ask key_cmp a p.ask) as (λ b. same_ask key_cmp a p.ask ≡ b → is_some (cond b (Some p.answer) (known_pairs (same_ask key_cmp) ps a)) ≡ true → Contains (asks_of (p ∷ ps)) a) [
      | true ↦ λ q e. here p.ask (asks_of ps) a (sym ((asks_exact key_cmp keys_total keys_exact).is a p.ask q))
      | false ↦ λ q e. there p.ask (asks_of ps) a (pairs_hold ps a e)
    ]) refl e

-- one batch of a talk has the ask
abbrev InTalk : List (Batch Key Out) → Ask Key → Type 0
InTalk talk a = (b : Batch Key Out) × Contains talk b × Contains (asks_of b.pairs) a

in_batch : (talk : List (Batch Key Out)) (a : Ask Key) → Contains (asks_of (all_pairs talk)) a → InTalk talk a
in_batch [] a c = absurd (nothing a c)
in_batch (b ∷ talk) a c =
    (elim (Contains-append_cases (asks_of b.pairs) (asks_of (all_pairs talk)) a (subst (λ (l : List (Ask Key)). Contains l a) (map-append (λ (p : Pair Key Out). p.ask) b.pairs (all_pairs talk)) c))
    as (λ _. InTalk (b ∷ talk) a) [
      | inl d ↦ (b, here b talk b refl, d)
      | inr d ↦ let h = in_batch talk a d in (h.0, there b talk h.0 h.1, h.2)
    ])

-- the whole build has a talk, which begins with the platform

abbrev asks_first : List (Ask Key)
asks_first = missing (same_ask key_cmp) (known_in {O = Out} (same_ask key_cmp) []) all_asks

begins : (w : World) → IsNext (meaning_of key_cmp edk) w key.All asks_first
begins w = record { talk = []; follows = tt; right = All-nil (λ (b : Batch Key Out). AreRight (meaning_of key_cmp edk) w b.pairs); next = refl }

has_platform : Contains asks_first (ask.Part key.Platform)
has_platform = (zero, omega arith, refl)

begun : (w : World) → Asks (meaning_of key_cmp edk) w key.All (ask.Part key.Platform)
begun w = next_asked (meaning_of key_cmp edk) (staged_is_lawful key_cmp edk keys_total keys_exact edk_is_bounded) w key.All asks_first (ask.Part key.Platform) (begins w) has_platform

pub reached_asked : (w : World) (a : Ask Key) → Reaches w a all_stages → Asks (meaning_of key_cmp edk) w key.All a
reached_asked w a h =
    let t = begun w in
    let known = known_in (same_ask key_cmp) t.talk in
    let agrees = talk_agrees (meaning_of key_cmp edk) w (same_ask key_cmp) (asks_exact key_cmp keys_total keys_exact) t.talk t.is_talk.right in
    let found = in_batch t.talk a (pairs_hold (all_pairs t.talk) a (reached_known w known a agrees all_stages t.is_talk.ends h)) in
    record { talk = t.talk; batch = found.0; is_talk = t.is_talk; has = found.1; asked = found.2 }
