-- What is noted of keys, and what that leaves of the table.
use Rattle.std.proofs.Common.{◌≡◌, ℕ, zero, suc, ◌<◌, ◌++◌, ◌⊎◌, List, [], ◌∷◌, Option, Some, None, Bool, true, false, cond, refl, sym, ap, ◌∙◌, subst, Contains, inl, inr, length, slice_get, get_or, Result, Ok, Err, is_err, OnOk}
use Rattle.std.proofs.lemmas.Option.{slice_get_within, get_or_from_slice_get}
use Rattle.std.proofs.lemmas.List.Elements.{Contains-push_cases, Contains-push, Contains-append_left}
use Rattle.std.specs.BTreeMap.{is_at}
use Rattle.std.specs.Map.{lookup}
use Rattle.std.specs.Ordering.{is_eq}
use Rattle.std.specs.declared.cmp.Ordering.{Ordering}
use Rattle.std.specs.declared.cmp.Ordering.TheVariants.{Equal}
use Rattle.std.proofs.lemmas.Map.Views.{tells_apart}
use Rattle.step_engine.specs.Build.{IsEntryOf}
use Rattle.step_engine.specs.declared.talk.Entry.{Entry}
use Rattle.step_engine.specs.Table.{Known, Sets, Puts, IsPlaced, IsDone, IsStarted, Finds, IsTable}
use Rattle.step_engine.specs.declared.places.Place.TheVariants.{Checking, Running, Done}

eq_is : {K : Type 0} (eq : K → K → Bool) (cmp : K → K → Ordering) → ((a b : K) → eq a b ≡ is_eq (cmp a b)) → eq ≡ (λ a. is_at (cmp a))
eq_is eq cmp law = λ i a b. law a b i

-- what is found by equality is found by the order
pub found_same : {K V : Type 0} (eq : K → K → Bool) (cmp : K → K → Ordering) → ((a b : K) → eq a b ≡ is_eq (cmp a b)) → (entries : List (K × V)) (k : K) → lookup (eq k) entries ≡ lookup (is_at (cmp k)) entries
found_same {K} eq cmp law entries k = ap (λ (e : K → K → Bool). lookup (e k) entries) (eq_is eq cmp law)

pub sets_same : {K V : Type 0} (eq : K → K → Bool) (cmp : K → K → Ordering) → ((a b : K) → eq a b ≡ is_eq (cmp a b)) → (k : K) (x : Option V) (old new : List (K × V))
    → ((j : K) → lookup (eq j) new ≡ cond (eq k j) x (lookup (eq j) old)) → Sets cmp k x old new
sets_same {K} eq cmp law k x old new h = subst (λ (e : K → K → Bool). (j : K) → lookup (e j) new ≡ cond (e k j) x (lookup (e j) old)) (eq_is eq cmp law) h

placed_case : {K V : Type 0} (cmp : K → K → Ordering) (law : (a b : K) → cmp a b ≡ Equal → a ≡ b) (k j : K) (p : V) (t u : K → Option V) (b : Bool) → is_at (cmp k) j ≡ b → u j ≡ cond b (Some p) (t j) → ((k ≡ j) × (u j ≡ Some p)) ⊎ (u j ≡ t j)
placed_case cmp law k j p t u true e h = inl (tells_apart law k j e, h)
placed_case cmp law k j p t u false e h = inr h

pub placed : {K V : Type 0} (cmp : K → K → Ordering) (law : (a b : K) → cmp a b ≡ Equal → a ≡ b) (k : K) (p : V) (old new : List (K × V)) → Puts cmp k p old new → lookup (is_at (cmp k)) new ≡ Some p → IsPlaced k p (λ j. lookup (is_at (cmp j)) old) (λ j. lookup (is_at (cmp j)) new)
placed cmp law k p old new puts here = record {
  here = here;
  cases = λ j. placed_case cmp law k j p (λ j. lookup (is_at (cmp j)) old) (λ j. lookup (is_at (cmp j)) new) (is_at (cmp k) j) refl (puts j);
}

pub get_push_old : {A : Type 0} (xs : List A) (y a : A) (i : ℕ) → slice_get xs i ≡ Some a → slice_get (xs ++ y ∷ []) i ≡ Some a
get_push_old [] y a i e = absurd (cc)
get_push_old (x ∷ xs) y a zero e = e
get_push_old (x ∷ xs) y a (suc i) e = get_push_old xs y a i e

pub get_push_new : {A : Type 0} (xs : List A) (y : A) → slice_get (xs ++ y ∷ []) (length xs) ≡ Some y
get_push_new [] y = refl
get_push_new (x ∷ xs) y = get_push_new xs y

pub get_push_cases : {A : Type 0} (xs : List A) (y a : A) (i : ℕ) → slice_get (xs ++ y ∷ []) i ≡ Some a → (slice_get xs i ≡ Some a) ⊎ ((i ≡ length xs) × (y ≡ a))
get_push_cases [] y a zero e = inr (refl, cc)
get_push_cases [] y a (suc i) e = absurd (let f : None ≡ Some a = e in cc)
get_push_cases (x ∷ xs) y a zero e = inl e
get_push_cases {A} (x ∷ xs) y a (suc i) e = elim (get_push_cases xs y a i e) as (λ _. (slice_get xs i ≡ Some a) ⊎ ((suc i ≡ length (x ∷ xs)) × (y ≡ a))) [ inl l ↦ inl l | inr r ↦ inr (ap suc r.0, r.1) ]

pub get_in : {A : Type 0} (xs : List A) (i : ℕ) (a : A) → slice_get xs i ≡ Some a → Contains xs a
get_in xs i a e = (i, slice_get_within xs i a e, get_or_from_slice_get xs i a a e)

-- a key that wasn't started is checked
pub table_checking : {K O : Type 0} (t u : Known K) (k : K) (added : List K) (fresh : List (Entry K O)) → (IsStarted (t k) → ⊥) → IsPlaced k Checking t u → IsTable t added fresh → IsTable u added fresh
table_checking {K} {O} t u k added fresh idle p h = record {
  one = λ i e r. (elim (p.cases e.key) as (λ _. u e.key ≡ Some (Done i)) [
    | inl q ↦ absurd (idle (inr (subst (λ j. IsDone (t j)) (sym q.0) (i, h.one i e r))))
    | inr q ↦ q ∙ h.one i e r
  ]);
  started = λ j c. (elim (p.cases j) as (λ _. IsStarted (u j)) [
    | inl q ↦ absurd (idle (subst (λ j. IsStarted (t j)) (sym q.0) (h.started j c)))
    | inr q ↦ subst IsStarted (sym q) (h.started j c)
  ]);
  running = λ j r. (elim (p.cases j) as (λ _. Contains added j) [
    | inl q ↦ absurd (let a : Some Checking ≡ Some Running = sym q.1 ∙ r in cc)
    | inr q ↦ h.running j (sym q ∙ r)
  ]);
  finds = λ j i r. (elim (p.cases j) as (λ _. (e : Entry K O) × (slice_get fresh i ≡ Some e) × (e.key ≡ j)) [
    | inl q ↦ absurd (let a : Some Checking ≡ Some (Done i) = sym q.1 ∙ r in cc)
    | inr q ↦ h.finds j i (sym q ∙ r)
  ]);
}

-- a key that wasn't started is granted
pub table_running : {K O : Type 0} (t u : Known K) (k : K) (added : List K) (fresh : List (Entry K O)) → (IsStarted (t k) → ⊥) → IsPlaced k Running t u → IsTable t added fresh → IsTable u (added ++ k ∷ []) fresh
table_running {K} {O} t u k added fresh idle p h = record {
  one = λ i e r. (elim (p.cases e.key) as (λ _. u e.key ≡ Some (Done i)) [
    | inl q ↦ absurd (idle (inr (subst (λ j. IsDone (t j)) (sym q.0) (i, h.one i e r))))
    | inr q ↦ q ∙ h.one i e r
  ]);
  started = λ j c. (elim (Contains-push_cases added k j c) as (λ _. IsStarted (u j)) [
    | inl l ↦ (elim (p.cases j) as (λ _. IsStarted (u j)) [ inl q ↦ inl q.1 | inr q ↦ subst IsStarted (sym q) (h.started j l) ])
    | inr e ↦ inl (subst (λ j. u j ≡ Some Running) e p.here)
  ]);
  running = λ j r. (elim (p.cases j) as (λ _. Contains (added ++ k ∷ []) j) [
    | inl q ↦ subst (Contains (added ++ k ∷ [])) q.0 (Contains-push added k)
    | inr q ↦ Contains-append_left added (k ∷ []) j (h.running j (sym q ∙ r))
  ]);
  finds = λ j i r. (elim (p.cases j) as (λ _. (e : Entry K O) × (slice_get fresh i ≡ Some e) × (e.key ≡ j)) [
    | inl q ↦ absurd (let a : Some Running ≡ Some (Done i) = sym q.1 ∙ r in cc)
    | inr q ↦ h.finds j i (sym q ∙ r)
  ]);
}

-- the entry of a key is made
pub table_done : {K O : Type 0} (t u : Known K) (e : Entry K O) (added : List K) (fresh : List (Entry K O)) → (IsDone (t e.key) → ⊥) → IsPlaced e.key (Done (length fresh)) t u → IsTable t added fresh → IsTable u added (fresh ++ e ∷ [])
table_done {K} {O} t u e added fresh out p h =
    let F : K → ℕ → Type 0 = λ j i. (d : Entry K O) × (slice_get (fresh ++ e ∷ []) i ≡ Some d) × (d.key ≡ j) in
    record {
      one = λ i d r. (elim (get_push_cases fresh e d i r) as (λ _. u d.key ≡ Some (Done i)) [
        | inl l ↦ (elim (p.cases d.key) as (λ _. u d.key ≡ Some (Done i)) [
          | inl q ↦ absurd (out (subst (λ j. IsDone (t j)) (sym q.0) (i, h.one i d l)))
          | inr q ↦ q ∙ h.one i d l
        ])
        | inr q ↦ subst (λ i. u d.key ≡ Some (Done i)) (sym q.0) (subst (λ (d : Entry K O). u d.key ≡ Some (Done (length fresh))) q.1 p.here)
      ]);
      started = λ j c. (elim (p.cases j) as (λ _. IsStarted (u j)) [ inl q ↦ inr (length fresh, q.1) | inr q ↦ subst IsStarted (sym q) (h.started j c) ]);
      running = λ j r. (elim (p.cases j) as (λ _. Contains added j) [
        | inl q ↦ absurd (let a : Some (Done (length fresh)) ≡ Some Running = sym q.1 ∙ r in cc)
        | inr q ↦ h.running j (sym q ∙ r)
      ]);
      finds = λ j i r. (elim (p.cases j) as (λ _. F j i) [
        | inl q ↦ (let a : Some (Done (length fresh)) ≡ Some (Done i) = sym q.1 ∙ r in let b : length fresh ≡ i = cc in (e, subst (λ i. slice_get (fresh ++ e ∷ []) i ≡ Some e) b (get_push_new fresh e), q.0))
        | inr q ↦ (let f = h.finds j i (sym q ∙ r) in (f.0, get_push_old fresh e f.0 i f.1, f.2))
      ]);
    }

pub on_ok : {A E : Type 0} (r : Result A E) (P : Type 0) → false ≡ is_err r → OnOk r P → P
on_ok (Ok x) P e h = h
on_ok (Err x) P e h = absurd (cc)

-- the entry that stands at the number of a key has its outcome
pub found : {K O : Type 0} (t : Known K) (fresh xs : List (Entry K O)) (k : K) (i : ℕ) (e : Entry K O) → Finds t fresh → t k ≡ Some (Done i) → xs ≡ fresh → Some e ≡ slice_get xs i → IsEntryOf k e.result fresh
found {K} {O} t fresh xs k i e finds here same at =
    let f = finds k i here in
    let a : slice_get fresh i ≡ Some e = subst (λ (ys : List (Entry K O)). slice_get ys i ≡ Some e) same (sym at) in
    let b : Some f.0 ≡ Some e = sym f.1 ∙ a in
    let c : f.0 ≡ e = cc in
    (f.0, get_in fresh i f.0 f.1, f.2, ap (λ (d : Entry K O). d.result) c)
