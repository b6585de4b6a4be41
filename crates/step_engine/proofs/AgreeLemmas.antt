-- Answers to parts are the outcomes of entries, and those that are compared once.
use Rattle.std.proofs.Common.{arith, ◌≡◌, ◌⊎◌, ◌↔◌, ◌++◌, List, [], ◌∷◌, Option, Some, Bool, IsTrue, refl, sym, ap, ◌∙◌, subst, All, Contains, inl, inr}
use Rattle.std.proofs.lemmas.List.Elements.{All-contains, Contains-push_cases}
use Rattle.step_engine.specs.Meaning.{asks_of}
use Rattle.step_engine.specs.Build.{IsEntryOf}
use Rattle.step_engine.specs.Agreeing.{IsPartAnswer, HaveParts, HasTalkParts, HasPair, Agree, AreCompared}
use Rattle.step_engine.specs.Engine.{Grows}
use Rattle.std.specs.declared.cmp.Ordering.{Ordering}
use Rattle.step_engine.specs.Reading.{compared_at}
use Rattle.step_engine.specs.Table.{IsPlaced}
use Rattle.step_engine.specs.Rounds.{IsOneEach}
use Rattle.step_engine.proofs.Caches.{Contains-cons, Contains-cons_cases}
use Rattle.step_engine.specs.declared.talk.Ask.{Ask}
use Rattle.step_engine.specs.declared.talk.Ask.TheVariants as ask
use Rattle.step_engine.specs.declared.talk.Answer.{Answer}
use Rattle.step_engine.specs.declared.talk.Answer.TheVariants as answer
use Rattle.step_engine.specs.declared.talk.Outcome.{Outcome}
use Rattle.step_engine.specs.declared.talk.Pair.{Pair}
use Rattle.step_engine.specs.declared.talk.Batch.{Batch}
use Rattle.step_engine.specs.declared.talk.Entry.{Entry}

-- what is an entry's outcome stays it when entries are added
entry_grows : {K O : Type 0} (xs ys : List (Entry K O)) (k : K) (r : Outcome O) → Grows xs ys → IsEntryOf k r xs → IsEntryOf k r ys
entry_grows xs ys k r g h = (h.0, g h.0 h.1, h.2, h.3)

pub answer_grows : {K O : Type 0} (xs ys : List (Entry K O)) (part : K) (a : Answer O) → Grows xs ys → IsPartAnswer xs part a → IsPartAnswer ys part a
answer_grows xs ys part a g h = (h.0, entry_grows xs ys part h.0 g h.1, h.2)

pub parts_grow : {K O : Type 0} (xs ys : List (Entry K O)) (talk : List (Batch K O)) → Grows xs ys → HasTalkParts xs talk → HasTalkParts ys talk
parts_grow xs ys talk g h b c part p d e = answer_grows xs ys part p.answer g (h b c part p d e)

pub compared_grows : {K O : Type 0} (old xs ys : List (Entry K O)) (t : K → Option Bool) → Grows xs ys → AreCompared old xs t → AreCompared old ys t
compared_grows old xs ys t g h k b e =
    let i = h k b e in
    (i.0, entry_grows xs ys k i.0 g i.1, i.2)

-- one more pair
pub parts_push : {K O : Type 0} (xs ys : List (Entry K O)) (pairs : List (Pair K O)) (p : Pair K O) → Grows xs ys → HaveParts xs pairs → ((part : K) → p.ask ≡ ask.Part part → IsPartAnswer ys part p.answer) → HaveParts ys (pairs ++ p ∷ [])
parts_push {K} {O} xs ys pairs p g h f part q c e = elim (Contains-push_cases pairs p q c) as (λ _. IsPartAnswer ys part q.answer) [
  | inl l ↦ answer_grows xs ys part q.answer g (h part q l e)
  | inr r ↦ subst (λ (q : Pair K O). q.ask ≡ ask.Part part → IsPartAnswer ys part q.answer) r (f part) e
]

-- the pair of an ask
pub asked_pair : {K O : Type 0} (ps : List (Pair K O)) (a : Ask K) → Contains (asks_of ps) a → (p : Pair K O) × Contains ps p × (p.ask ≡ a)
asked_pair [] a h = absurd (omega (arith, h.1))
asked_pair {K} {O} (p ∷ ps) a h = elim (Contains-cons_cases p.ask (asks_of ps) a h) as (λ _. (q : Pair K O) × Contains (p ∷ ps) q × (q.ask ≡ a)) [
  | inl e ↦ (p, (0, omega arith, refl), e)
  | inr c ↦ (let i = asked_pair ps a c in (i.0, Contains-cons p ps i.0 i.1, i.2))
]

-- the answers of entries of which each has a key of its own
pub made_agree : {K O : Type 0} (fresh : List (Entry K O)) → All (λ (e : Entry K O). HasTalkParts fresh e.talk.batches) fresh → IsOneEach fresh → Agree fresh
made_agree {K} {O} fresh closed one part p q c d a b =
    let P : Entry K O → Type 0 = λ e. HasTalkParts fresh e.talk.batches in
    let f : IsPartAnswer fresh part p.answer = All-contains P fresh c.0 closed c.2 c.1 c.3 part p c.4 a in
    let g : IsPartAnswer fresh part q.answer = All-contains P fresh d.0 closed d.2 d.1 d.3 part q d.4 b in
    let x = f.1 in
    let y = g.1 in
    let same : x.0 ≡ y.0 = one x.0 y.0 x.1 y.1 (x.2 ∙ sym y.2) in
    let result : f.0 ≡ g.0 = sym x.3 ∙ (ap (λ (e : Entry K O). e.result) same ∙ y.3) in
    f.2 ∙ (ap answer.Part result ∙ sym g.2)

-- fewer entries
pub agree_under : {K O : Type 0} (xs ys : List (Entry K O)) → ((e : Entry K O) → Contains ys e → Contains xs e) → Agree xs → Agree ys
agree_under xs ys f h part p q c d a b = h part p q (c.0, c.1, f c.0 c.2, c.3, c.4) (d.0, d.1, f d.0 d.2, d.3, d.4) a b

-- one more part is compared
compared_more : {K O : Type 0} (old fresh : List (Entry K O)) (t u : K → Option Bool) (part : K) (same : Bool) (p : Pair K O) (r : Outcome O) → AreCompared old fresh t → IsEntryOf part r fresh → HasPair old p → p.ask ≡ ask.Part part → (IsTrue same ↔ (answer.Part r ≡ p.answer)) → Agree old × IsPlaced part same t u → AreCompared old fresh u
compared_more {K} {O} old fresh t u part same p r h made here is d n k b e = elim (let c = n.1 in c.cases k) as (λ _. (r : Outcome O) × IsEntryOf k r fresh × ((q : Pair K O) → HasPair old q → q.ask ≡ ask.Part k → IsTrue b ↔ (answer.Part r ≡ q.answer))) [
  | inl l ↦ (
      let f : Some same ≡ Some b = sym l.1 ∙ e in
      let g : same ≡ b = cc in
      let on : (q : Pair K O) → HasPair old q → q.ask ≡ ask.Part k → IsTrue b ↔ (answer.Part r ≡ q.answer) = λ q c j.
      let answers : p.answer ≡ q.answer = n.0 part p q here c is (j ∙ ap ask.Part (sym l.0)) in
      subst (λ b. IsTrue b ↔ (answer.Part r ≡ q.answer)) g (subst (λ (a : Answer O). IsTrue same ↔ (answer.Part r ≡ a)) answers d) in
      (r, subst (λ k. IsEntryOf k r fresh) l.0 made, on)
      )
  | inr l ↦ h k b (sym l ∙ e)
]

pub compared_noted : {K O : Type 0} (cmp : K → K → Ordering) (old fresh : List (Entry K O)) (before after : List (K × Bool)) (part : K) (same : Bool) (p : Pair K O) (r : Outcome O) → AreCompared old fresh (compared_at cmp before) → IsEntryOf part r fresh → HasPair old p → p.ask ≡ ask.Part part → (IsTrue same ↔ (answer.Part r ≡ p.answer)) → (after ≡ before) ⊎ (Agree old × IsPlaced part same (compared_at cmp before) (compared_at cmp after)) → AreCompared old fresh (compared_at cmp after)
compared_noted cmp old fresh before after part same p r h made here is d (inl e) = rw e h
compared_noted cmp old fresh before after part same p r h made here is d (inr n) = compared_more old fresh (compared_at cmp before) (compared_at cmp after) part same p r h made here is d n
