-- Keys that are opened have their places.
use Rattle.std.proofs.Common.{◌≡◌, ℕ, ◌+◌, ◌<◌, ◌≤◌, ◌++◌, ◌⊎◌, List, [], ◌∷◌, Option, Some, None, refl, sym, ap, ◌∙◌, subst, Contains, inl, inr, arith, length, get_or, MatchOption}
use Rattle.std.proofs.lemmas.List.Elements.{Contains-push, Contains-append_left}
use Rattle.std.proofs.lemmas.List.{get_or_default}
use borrow.Author.Count.{below_more}
use Rattle.step_engine.specs.declared.talk.Entry.{Entry}
use Rattle.step_engine.specs.Table.{Known, IsDone}
use Rattle.step_engine.specs.Taking.{PutsIn}
use Rattle.step_engine.specs.Opening.{IsOpened}
use Rattle.step_engine.specs.Forward.{IsMet, HasItem, IsLeftAt, AreMet, AreOpened}
use Rattle.step_engine.specs.declared.places.Place.{Place}
use Rattle.step_engine.specs.declared.places.Place.TheVariants.{Checking, Running, Done}
use Rattle.step_engine.specs.declared.items.Item.{Item}
use Rattle.step_engine.specs.declared.items.Item.TheVariants as item

-- a place stays, or is a new one that some key has
abbrev pub IsNewAt : {K : Type 0} → Known K → Known K → (K → Place → Type 0) → K → Type 0
IsNewAt t u Has k = (u k ≡ t k) ⊎ ((t k ≡ None) × (p : Place) × (u k ≡ Some p) × Has k p)

pub opened_one : {K O : Type 0} (k : K) (old : List (Entry K O)) (b1 b2 : List K) (t u : Known K) (r : Option (Item K O)) → MatchOption r ((b2 ≡ b1) × (u ≡ t)) (IsOpened k old b1 b2 t u) → (j : K) → IsNewAt t u (IsLeftAt r) j
opened_one {K} k old b1 b2 t u None h j = inl (ap (λ (f : Known K). f j) h.1)
opened_one {K} {O} k old b1 b2 t u (Some (item.Run r)) h j = elim (h.3.cases j) as (λ _. IsNewAt t u (IsLeftAt (Some (item.Run r))) j) [
  | inl q ↦ inr (subst (λ (j : K). t j ≡ None) q.0 h.0, Running, q.1, (h.4 ∙ q.0, refl))
  | inr q ↦ inl q
]
opened_one k old b1 b2 t u (Some (item.Asked a)) h j = absurd h
opened_one {K} {O} k old b1 b2 t u (Some (item.Check c)) h j = elim (h.2.cases j) as (λ _. IsNewAt t u (IsLeftAt (Some (item.Check c))) j) [
  | inl q ↦ inr (subst (λ (j : K). t j ≡ None) q.0 h.0, Checking, q.1, (h.3 ∙ q.0, refl))
  | inr q ↦ inl q
]

pub new_met : {K : Type 0} (t u : Known K) (Has : K → Place → Type 0) (k : K) → IsNewAt t u Has k → IsMet (t k) → IsMet (u k)
new_met t u Has k (inl e) m = (m.0, e ∙ m.1)
new_met t u Has k (inr h) m = (h.1, h.2)

pub new_done : {K : Type 0} (t u : Known K) (Has : K → Place → Type 0) (k : K) → IsNewAt t u Has k → IsDone (t k) → IsDone (u k)
new_done t u Has k (inl e) d = (d.0, e ∙ d.1)
new_done t u Has k (inr h) d = absurd (let f : None ≡ Some (Done d.0) = sym h.0 ∙ d.1 in cc)

-- one after the other
pub new_join : {K : Type 0} (t u v : Known K) (Has More All : K → Place → Type 0) (k : K) → IsNewAt t u Has k → IsNewAt u v More k → ((p : Place) → Has k p → All k p) → ((p : Place) → More k p → All k p) → IsNewAt t v All k
new_join t u v Has More All k (inl e) (inl f) a b = inl (f ∙ e)
new_join t u v Has More All k (inl e) (inr h) a b = inr (sym e ∙ h.0, h.1, h.2, b h.1 h.3)
new_join t u v Has More All k (inr h) (inl f) a b = inr (h.0, h.1, f ∙ h.2, a h.1 h.3)
new_join t u v Has More All k (inr h) (inr i) a b = absurd (let f : None ≡ Some h.1 = sym i.0 ∙ h.2 in cc)

pub item_push : {K O : Type 0} (items : List (Item K O)) (a : Item K O) (k : K) (p : Place) → HasItem items k p → HasItem (items ++ a ∷ []) k p
item_push items a k p h = (h.0, Contains-append_left items (a ∷ []) h.0 h.1, h.2, h.3)

pub item_pushed : {K O : Type 0} (items : List (Item K O)) (a : Item K O) (k : K) (p : Place) → IsLeftAt (Some a) k p → HasItem (items ++ a ∷ []) k p
item_pushed items a k p h = (a, Contains-push items a, h.0, h.1)

pub items_same : {K O : Type 0} (xs ys : List (Item K O)) (k : K) (p : Place) → ys ≡ xs → HasItem xs k p → HasItem ys k p
items_same {K} {O} xs ys k p e h = (h.0, subst (λ (zs : List (Item K O)). Contains zs h.0) (sym e) h.1, h.2, h.3)

pub put_kept : {K O : Type 0} (r : Option (Item K O)) (items items' : List (Item K O)) → PutsIn r items items' → (k : K) (p : Place) → HasItem items k p → HasItem items' k p
put_kept None items items' e k p h = items_same items items' k p e h
put_kept (Some a) items items' e k p h = items_same (items ++ a ∷ []) items' k p e (item_push items a k p h)

pub put_left : {K O : Type 0} (r : Option (Item K O)) (items items' : List (Item K O)) → PutsIn r items items' → (k : K) (p : Place) → IsLeftAt r k p → HasItem items' k p
put_left None items items' e k p h = absurd h
put_left (Some a) items items' e k p h = items_same (items ++ a ∷ []) items' k p e (item_pushed items a k p h)

pub opened_none : {K O : Type 0} (t : Known K) (items : List (Item K O)) → AreOpened t t items
opened_none t items k = inl refl

pub opened_more : {K O : Type 0} (k : K) (old : List (Entry K O)) (b1 b2 : List K) (t u v : Known K) (r : Option (Item K O)) (items items' : List (Item K O)) → AreOpened t u items → MatchOption r ((b2 ≡ b1) × (v ≡ u)) (IsOpened k old b1 b2 u v) → PutsIn r items items' → AreOpened t v items'
opened_more k old b1 b2 t u v r items items' o h put j = new_join t u v (HasItem items) (IsLeftAt r) (HasItem items') j (o j) (opened_one k old b1 b2 u v r h j) (put_kept r items items' put j) (put_left r items items' put j)

-- the first keys are met
abbrev pub MetTo : {K : Type 0} → Known K → List K → ℕ → Type 0
MetTo {K} t keys i = (j : ℕ) → j < i → (k : K) → get_or keys j k ≡ k → IsMet (t k)

pub met_none : {K : Type 0} (t : Known K) (keys : List K) → MetTo t keys 0
met_none t keys j l k e = absurd (omega (arith, l))

pub met_more : {K O : Type 0} (key : K) (old : List (Entry K O)) (b1 b2 : List K) (t u : Known K) (r : Option (Item K O)) (keys xs : List K) (i : ℕ) → MetTo t keys i → MatchOption r ((b2 ≡ b1) × (u ≡ t)) (IsOpened key old b1 b2 t u) → IsMet (u key) → xs ≡ keys → i < length xs → key ≡ get_or xs i key → MetTo u keys (i + 1)
met_more {K} key old b1 b2 t u r keys xs i m h now same l e =
    let P : ℕ → Type 0 = λ j. (k : K) → get_or keys j k ≡ k → IsMet (u k) in
    let below : (j : ℕ) → j < i → P j = λ j n k f. new_met t u (IsLeftAt r) k (opened_one key old b1 b2 t u r h k) (m j n k f) in
    let here : P i = λ k f.
    let d : get_or xs i k ≡ key = get_or_default xs i k key l ∙ sym e in
    let d' : get_or keys i k ≡ key = subst (λ (ys : List K). get_or ys i k ≡ key) same d in
    subst (λ (k : K). IsMet (u k)) (sym d' ∙ f) now in
    λ j n. below_more P i below here j n

pub met_all : {K : Type 0} (t : Known K) (keys xs : List K) (i : ℕ) → MetTo t keys i → xs ≡ keys → length xs ≤ i → AreMet t keys
met_all {K} t keys xs i m same l k c =
    let n : c.0 < i = omega (arith, c.1, ap (λ (ys : List K). length ys) same) in
    m c.0 n k c.2
