-- What a visit does for a key whose parts are all done.
use Rattle.std.proofs.Common.{◌≡◌, ℕ, ◌<◌, ◌≤◌, ◌⊎◌, List, [], ◌∷◌, Option, Some, None, Bool, refl, sym, subst, Contains, inl, inr, arith}
use Rattle.std.proofs.lemmas.List.Elements.{Contains-push, Contains-append_left}
use Rattle.std.specs.Option.{IfNone}
use Rattle.step_engine.specs.Table.{Known, IsDone}
use Rattle.step_engine.specs.Taking.{SortsIn}
use Rattle.step_engine.specs.Forward.{IsAble, AreAble, Rises, IsRun, HasOne, Acts, AllAct, LacksPart}
use Rattle.step_engine.specs.declared.talk.Ask.{Ask}
use Rattle.step_engine.specs.declared.talk.Ask.TheVariants as ask
use Rattle.step_engine.specs.declared.items.Run.{Run}
use Rattle.step_engine.specs.declared.items.Asked.{Asked}
use Rattle.step_engine.specs.declared.items.Item.{Item}
use Rattle.step_engine.specs.declared.items.Item.TheVariants as item
use Rattle.step_engine.proofs.ForwardLemmas.{rises_then, then_rises}
use Rattle.step_engine.proofs.LookLemmas.{rest_cases}
use Rattle.step_engine.proofs.Moves.{none_in}

pub lacks_part : {K : Type 0} (t : Known K) (a : Ask K) (part : K) (r : Option Bool) → a ≡ ask.Part part → IfNone r (IsDone (t part) → ⊥) → IfNone r (LacksPart t (λ p. a ≡ ask.Part p))
lacks_part t a part None e f = (part, e, f)
lacks_part t a part (Some b) e f = tt

pub acts_counted : {K O : Type 0} (rank : K → ℕ) (t : Known K) (a : Item K O) (n m : ℕ) → n ≤ m → Rises n m → Acts rank t a n m ⊥
acts_counted rank t a n m g r = record { grows = g; able = λ h. inl r }

pub acts_run : {K O : Type 0} (rank : K → ℕ) (t : Known K) (n : ℕ) (r : Run K O) (a : Item K O) → a ≡ item.Run r → Acts rank t a n n (IsRun (Some (item.Run r)))
acts_run rank t n r a e = record { grows = omega arith; able = λ h. inr (r, refl) }

pub acts_more : {K O : Type 0} (rank : K → ℕ) (t : Known K) (a b : Item K O) (n m : ℕ) (R : Type 0) → a ≡ b → Acts rank t b n m ⊥ → Acts rank t a n m R
acts_more {K} {O} rank t a b n m R e h = record {
  grows = h.grows;
  able = λ f. (elim (h.able (subst (λ (a : Item K O). IsAble rank t a) e f)) as (λ _. Rises n m ⊎ R) [ inl r ↦ inl r | inr x ↦ absurd x ]);
}

-- a step that asked has a part that isn't done
pub acts_asked : {K O : Type 0} (rank : K → ℕ) (t : Known K) (a : Asked K O) (n : ℕ) → ((p : K) → Contains a.asks (ask.Part p) → rank p < rank a.key) → LacksPart t (λ p. Contains a.asks (ask.Part p)) → Acts rank t (item.Asked a) n n ⊥
acts_asked rank t a n low l = record {
  grows = omega arith;
  able = λ f. absurd (l.2 (f l.0 l.1 (low l.0 l.1)));
}

run_sorted : {K O : Type 0} (r : Option (Item K O)) (runs runs' : List (Run K O)) (rest rest' : List (Item K O)) (q : Run K O) → r ≡ Some (item.Run q) → SortsIn r runs runs' rest rest' → HasOne runs'
run_sorted {K} {O} None runs runs' rest rest' q e h = absurd (let f : None ≡ Some (item.Run q) = e in cc)
run_sorted {K} {O} (Some (item.Run r)) runs runs' rest rest' q e h = (r, subst (λ (xs : List (Run K O)). Contains xs r) (sym h.0) (Contains-push runs r))
run_sorted {K} {O} (Some (item.Asked a)) runs runs' rest rest' q e h = absurd (let f : Some (item.Asked a) ≡ Some (item.Run q) = e in cc)
run_sorted {K} {O} (Some (item.Check a)) runs runs' rest rest' q e h = absurd (let f : Some (item.Check a) ≡ Some (item.Run q) = e in cc)

one_kept : {K O : Type 0} (r : Option (Item K O)) (runs runs' : List (Run K O)) (rest rest' : List (Item K O)) → SortsIn r runs runs' rest rest' → HasOne runs → HasOne runs'
one_kept {K} {O} None runs runs' rest rest' h o = (o.0, subst (λ (xs : List (Run K O)). Contains xs o.0) (sym h.0) o.1)
one_kept {K} {O} (Some (item.Run r)) runs runs' rest rest' h o = (o.0, subst (λ (xs : List (Run K O)). Contains xs o.0) (sym h.0) (Contains-append_left runs (r ∷ []) o.0 o.1))
one_kept {K} {O} (Some (item.Asked a)) runs runs' rest rest' h o = (o.0, subst (λ (xs : List (Run K O)). Contains xs o.0) (sym h.0) o.1)
one_kept {K} {O} (Some (item.Check a)) runs runs' rest rest' h o = (o.0, subst (λ (xs : List (Run K O)). Contains xs o.0) (sym h.0) o.1)

-- of the first items one did something, where all are able to
abbrev pub Moved : {K O : Type 0} → (K → ℕ) → Known K → List (Item K O) → List (Item K O) → ℕ → ℕ → List (Run K O) → Type 0
Moved {K} {O} rank t items rest n m runs = AreAble rank t items → (a : Item K O) → Contains items a → Contains rest a ⊎ (Rises n m ⊎ HasOne runs)

pub moved_none : {K O : Type 0} (rank : K → ℕ) (t : Known K) (items rest : List (Item K O)) (n : ℕ) (runs : List (Run K O)) → rest ≡ items → Moved rank t items rest n n runs
moved_none {K} {O} rank t items rest n runs e f a c = inl (subst (λ (xs : List (Item K O)). Contains xs a) (sym e) c)

pub moved_more : {K O : Type 0} (rank : K → ℕ) (t u : Known K) (items rest more : List (Item K O)) (i : Item K O) (n m l : ℕ) (r : Option (Item K O)) (runs runs' : List (Run K O)) (left left' : List (Item K O)) → Moved rank t items rest n m runs → n ≤ m → rest ≡ i ∷ more → Contains items i → ((k : K) → IsDone (t k) → IsDone (u k)) → Acts rank u i m l (IsRun r) → SortsIn r runs runs' left left' → Moved rank t items more n l runs'
moved_more {K} {O} rank t u items rest more i n m l r runs runs' left left' s g e c d h sorts f a b =
    let now : Rises n l ⊎ HasOne runs' = elim (h.able (λ p q low. d p (f i c p q low))) as (λ _. Rises n l ⊎ HasOne runs') [
      | inl x ↦ inl (then_rises n m l g x h.grows)
      | inr x ↦ inr (run_sorted r runs runs' left left' x.0 x.1 sorts)
    ] in
    elim (s f a b) as (λ _. Contains more a ⊎ (Rises n l ⊎ HasOne runs')) [
      | inl x ↦ (elim (rest_cases rest more i a e x) as (λ _. Contains more a ⊎ (Rises n l ⊎ HasOne runs')) [ inl y ↦ inr now | inr y ↦ inl y ])
      | inr x ↦ (elim x as (λ _. Contains more a ⊎ (Rises n l ⊎ HasOne runs')) [
        | inl y ↦ inr (inl (rises_then n m l y h.grows))
        | inr y ↦ inr (inr (one_kept r runs runs' left left' sorts y))
      ])
    ]

pub moved_all : {K O : Type 0} (rank : K → ℕ) (t : Known K) (items rest : List (Item K O)) (n m : ℕ) (runs : List (Run K O)) → rest ≡ [] → n ≤ m → Moved rank t items rest n m runs → AllAct rank t items n m (HasOne runs)
moved_all {K} {O} rank t items rest n m runs e g f = record {
  grows = g;
  able = λ h o. (elim (f h o.0 o.1) as (λ _. Rises n m ⊎ HasOne runs) [
    | inl x ↦ absurd (none_in o.0 (subst (λ (xs : List (Item K O)). Contains xs o.0) e x))
    | inr x ↦ x
  ]);
}
