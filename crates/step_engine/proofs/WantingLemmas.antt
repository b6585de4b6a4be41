-- Parts that are wanted.
use Rattle.std.proofs.Common.{◌≡◌, ◌++◌, ◌<◌, List, [], ◌∷◌, Some, refl, sym, ◌∙◌, subst, Contains, inl, inr, slice_get, get_or, length}
use Rattle.std.proofs.lemmas.List.Elements.{Contains-push_cases}
use Rattle.std.proofs.lemmas.Option.{slice_get_within, get_or_from_slice_get, slice_get_read}
use Rattle.build_base.specs.World.{World}
use Rattle.step_engine.specs.Meaning.{asks_of}
use Rattle.step_engine.specs.Turns.{AreLawful}
use Rattle.step_engine.specs.Build.{Setting, IsHere}
use Rattle.step_engine.specs.Engine.{State, IsNext}
use Rattle.step_engine.proofs.Talks.{needed_through}
use Rattle.step_engine.proofs.Moves.{needs_one, none_in}
use Rattle.step_engine.proofs.Steps.{part_asked, running_next}
use Rattle.step_engine.specs.declared.talk.Ask.{Ask}
use Rattle.step_engine.specs.declared.talk.Ask.TheVariants as ask
use Rattle.step_engine.specs.declared.talk.Batch.{Batch}
use Rattle.step_engine.specs.Rounds.{IsWanted}
use Rattle.step_engine.specs.Items.{IsItem, item_key}
use Rattle.step_engine.specs.Wanting.{AddsParts, ArePartsOf, IsAskedBy, WantsItem}
use Rattle.step_engine.specs.declared.items.Item.{Item}
use Rattle.step_engine.specs.declared.items.Asked.{Asked}
use Rattle.step_engine.specs.declared.items.Check.{Check}
use Rattle.step_engine.specs.declared.items.Item.TheVariants as item
use Rattle.step_engine.proofs.Advancing.{check_asks}

-- one more ask
pub parts_more : {K : Type 0} (asks : List (Ask K)) (old mid new : List K) (a : Ask K) → Contains asks a → ((k : K) → Contains mid k → ArePartsOf asks old k) → ((k : K) → Contains new k → AddsParts a mid k) → (k : K) → Contains new k → ArePartsOf asks old k
parts_more {K} asks old mid new a c f h k d = elim (h k d) as (λ _. ArePartsOf asks old k) [
  | inl l ↦ f k l
  | inr r ↦ inr (subst (λ (a : Ask K). Contains asks a) r c)
]

pub asked_alone : {K O : Type 0} (k : K) (i : Item K O) (old : List K) → old ≡ [] → WantsItem i old k → IsAskedBy k i
asked_alone k i old e (inl h) = absurd (none_in k (rw e at h))
asked_alone k i old e (inr h) = h

-- what a needed key asks next is needed
next_wanted : {K O : Type 0} (s : Setting K O) (law : AreLawful s.means) (top k part : K) (asks : List (Ask K)) → IsWanted s top k → ((w : World) → IsHere s w → IsNext s.means w k asks) → Contains asks (ask.Part part) → IsWanted s top part
next_wanted s law top k part asks wanted next c w i = needed_through s.means w (top ∷ []) (k ∷ []) part (needs_one s.means w (top ∷ []) k (wanted w i)) (part_asked s.means law w k (ask.Part part) part (asks, c, next w i) refl)

pub item_part : {K O : Type 0} (s : Setting K O) (law : AreLawful s.means) (top k : K) (z : State K O) (a : Item K O) → IsItem s z a → IsWanted s top (item_key a) → IsAskedBy k a → IsWanted s top k
item_part s law top k z (item.Run r) h wanted b = absurd b
item_part s law top k z (item.Asked a) h wanted b = next_wanted s law top a.key k a.asks wanted (λ w i. running_next s a.key z a.talk.batches a.asks h.running h.next w i) b
item_part s law top k z (item.Check c) h wanted b =
    let l = slice_get_within c.entry.talk.batches c.batch b.0 b.1 in
    let g = sym (get_or_from_slice_get c.entry.talk.batches c.batch b.0 b.0 b.1) in
    next_wanted s law top c.entry.key k (asks_of b.0.pairs) wanted (λ w i. check_asks s z c.entry c.batch h b.0 l g w i) b.2

pub want_one : {K : Type 0} (a : Ask K) (old : List K) (p q k : K) → a ≡ ask.Part q → p ≡ q → Contains (old ++ p ∷ []) k → AddsParts a old k
want_one {K} a old p q k is same h = elim (Contains-push_cases old p k h) as (λ _. AddsParts a old k) [
  | inl l ↦ inl l
  | inr r ↦ inr (let f : q ≡ k = sym same ∙ r in subst (λ (j : K). a ≡ ask.Part j) f is)
]

pub want_asked : {K O : Type 0} (i : Item K O) (a : Asked K O) (old new : List K) → i ≡ item.Asked a → ((k : K) → Contains new k → ArePartsOf a.asks old k) → (k : K) → Contains new k → WantsItem i old k
want_asked i a old new e f k h = rw e (f k h)

pub want_check : {K O : Type 0} (i : Item K O) (c : Check K O) (xs : List (Batch K O)) (b : Batch K O) (old new : List K) → i ≡ item.Check c → xs ≡ c.entry.talk.batches → c.batch < length xs → b ≡ get_or xs c.batch b → ((k : K) → Contains new k → ArePartsOf (asks_of b.pairs) old k) → (k : K) → Contains new k → WantsItem i old k
want_check {K} {O} i c xs b old new e same l g f k h =
    let here : slice_get c.entry.talk.batches c.batch ≡ Some b = subst (λ (ys : List (Batch K O)). slice_get ys c.batch ≡ Some b) same (slice_get_read xs (length xs) c.batch b refl l g) in
    rw e (elim (f k h) as (λ _. WantsItem (item.Check c) old k) [ inl q ↦ inl q | inr q ↦ inr (b, here, q) ])
