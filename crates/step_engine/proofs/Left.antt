-- What a build leaves.
use Rattle.std.proofs.Common.{◌≡◌, suc, List, [], ◌∷◌, refl, sym, ap, Contains, arith, inl, inr, length}
use Rattle.std.proofs.lemmas.List.Elements.{All-contains, All-weaker, All-contains_itself}
use Rattle.std.specs.Cmp.{IsTotalOrder}
use Rattle.std.specs.declared.cmp.Ordering.{Ordering}
use Rattle.std.specs.declared.cmp.Ordering.TheVariants.{Less}
use Rattle.build_base.specs.World.{World}
use Rattle.step_engine.specs.Caches.{HasKey, AreInOrder, IsJoined}
use Rattle.step_engine.specs.Meaning.{Meaning}
use Rattle.step_engine.specs.Entries.{IsSound, AreSound}
use Rattle.step_engine.specs.Needed.{IsLeft, AreDistinct}
use Rattle.step_engine.proofs.Moves.{none_in}
use Rattle.step_engine.proofs.Caches.{Contains-cons, Contains-cons_cases, apart, same_entries}
use Rattle.step_engine.specs.declared.talk.Entry.{Entry}

abbrev pub keys : {K O : Type 0} → List (Entry K O) → List K
keys [] = []
keys (x ∷ xs) = x.key ∷ keys xs

pub has_key : {K O : Type 0} (xs : List (Entry K O)) (e : Entry K O) → Contains xs e → Contains (keys xs) e.key
has_key [] e h = absurd (none_in e h)
has_key {K} {O} (x ∷ xs) e h = elim (Contains-cons_cases x xs e h) as (λ _. Contains (x.key ∷ keys xs) e.key) [
  | inl l ↦ (0, omega arith, ap (λ (e : Entry K O). e.key) l)
  | inr r ↦ Contains-cons x.key (keys xs) e.key (has_key xs e r)
]

pub key_of : {K O : Type 0} (xs : List (Entry K O)) (k : K) → Contains (keys xs) k → HasKey xs k
key_of [] k h = absurd (none_in k h)
key_of (x ∷ xs) k h = elim (Contains-cons_cases x.key (keys xs) k h) as (λ _. HasKey (x ∷ xs) k) [
  | inl l ↦ (x, (0, omega arith, refl), l)
  | inr r ↦ (let q = key_of xs k r in (q.0, Contains-cons x xs q.0 q.1, q.2))
]

pub length_keys : {K O : Type 0} (xs : List (Entry K O)) → length (keys xs) ≡ length xs
length_keys [] = refl
length_keys (x ∷ xs) = ap suc (length_keys xs)

pub keys_distinct : {K O : Type 0} (cmp : K → K → Ordering) → IsTotalOrder cmp → (xs : List (Entry K O)) → AreInOrder cmp xs → AreDistinct (keys xs)
keys_distinct cmp o [] s = tt
keys_distinct {K} {O} cmp o (x ∷ xs) s = (
  λ h. (let q = key_of xs x.key h in apart cmp o x.key q.0.key (sym q.2) (All-contains (λ (y : Entry K O). cmp x.key y.key ≡ Less) xs q.0 s.0 q.1)),
  keys_distinct cmp o xs s.1,
)

-- two ordered caches that a build may leave are one
pub left_one : {K O : Type 0} (cmp : K → K → Ordering) → IsTotalOrder cmp → (m : Meaning K O) (w : World) (old : List (Entry K O)) (top : K) (xs ys : List (Entry K O)) → AreInOrder cmp xs → AreInOrder cmp ys → IsLeft m w old top xs → IsLeft m w old top ys → xs ≡ ys
left_one cmp o m w old top xs ys s t a b = same_entries cmp o xs ys s t (λ e h. (b.entries e).1 ((a.entries e).0 h)) (λ e h. (a.entries e).1 ((b.entries e).0 h))

pub joined_sound : {K O : Type 0} (m : Meaning K O) (second first cache : List (Entry K O)) → AreSound m second → AreSound m first → IsJoined first second cache → AreSound m cache
joined_sound {K} {O} m second first cache old made j = All-weaker (Contains cache) (IsSound m) (λ e h. (elim (j.only e h) as (λ _. IsSound m e) [
  | inl l ↦ All-contains (IsSound m) first e made l
  | inr q ↦ All-contains (IsSound m) second e old q.0
])) cache (All-contains_itself cache)
