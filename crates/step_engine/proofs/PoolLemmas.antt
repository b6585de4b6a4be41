-- Keys that wait for a part, and those that don't any longer.
use Rattle.std.proofs.Common.{◌≡◌, ◌++◌, ◌⊎◌, List, [], ◌∷◌, Some, None, Bool, true, false, cond, sym, ◌∙◌, subst, inl, inr}
use Rattle.std.proofs.lemmas.List.Elements.{Contains-push_cases, Contains-append_cases}
use Rattle.std.specs.BTreeMap.{is_at}
use Rattle.std.specs.Map.{lookup}
use Rattle.std.specs.declared.cmp.Ordering.{Ordering}
use Rattle.step_engine.specs.Pooling.{Holds, Parks}
use Rattle.step_engine.specs.Table.{Sets, Puts}
use Rattle.step_engine.specs.declared.items.Item.{Item}
use Rattle.step_engine.specs.declared.items.Waiting.{Waiting}
use Rattle.step_engine.specs.declared.items.Queue.{Queue}
use Rattle.step_engine.proofs.Moves.{none_in}

pub holds_none : {K O : Type 0} (a : Item K O) → Holds [] a → ⊥
holds_none a h = none_in h.0 h.1

pub holds_push : {K O : Type 0} (ws : List (Waiting K O)) (w : Waiting K O) (a : Item K O) → Holds (ws ++ w ∷ []) a → (w.item ≡ a) ⊎ Holds ws a
holds_push {K} {O} ws w a h = elim (Contains-push_cases ws w h.0 h.1) as (λ _. (w.item ≡ a) ⊎ Holds ws a) [
  | inl l ↦ inr (h.0, l, h.2)
  | inr r ↦ inl (subst (λ (v : Waiting K O). v.item ≡ a) (sym r) h.2)
]

pub holds_append : {K O : Type 0} (xs ys : List (Waiting K O)) (a : Item K O) → Holds (xs ++ ys) a → Holds xs a ⊎ Holds ys a
holds_append xs ys a h = elim (Contains-append_cases xs ys h.0 h.1) as (λ _. Holds xs a ⊎ Holds ys a) [
  | inl l ↦ inl (h.0, l, h.2)
  | inr r ↦ inr (h.0, r, h.2)
]

module _ {K O : Type 0} (cmp : K → K → Ordering) (part : K) (m n : List (K × Queue K O)) where
  -- a part's queue was taken out
  less_case : (a : Item K O) (k : K) (q : Queue K O) (b : Bool) → lookup (is_at (cmp k)) n ≡ cond b None (lookup (is_at (cmp k)) m) → lookup (is_at (cmp k)) n ≡ Some q → Holds q.list.items a → Parks cmp m a
  less_case a k q true e f h = absurd (let g : None ≡ Some q = sym e ∙ f in cc)
  less_case a k q false e f h = (k, q, sym e ∙ f, h)

  pub taken_less : Sets cmp part None m n → (a : Item K O) → Parks cmp n a → Parks cmp m a
  taken_less u a p = less_case a p.0 p.1 (is_at (cmp part) p.0) (u p.0) p.2 p.3

  -- and another was put in its place
  more_case : (a : Item K O) (k : K) (q new : Queue K O) (b : Bool) → lookup (is_at (cmp k)) n ≡ cond b (Some new) (lookup (is_at (cmp k)) m) → lookup (is_at (cmp k)) n ≡ Some q → Holds q.list.items a → Holds new.list.items a ⊎ Parks cmp m a
  more_case a k q new true e f h = (let g : Some new ≡ Some q = sym e ∙ f in let i : new ≡ q = cc in inl (subst (λ (q : Queue K O). Holds q.list.items a) (sym i) h))
  more_case a k q new false e f h = inr (k, q, sym e ∙ f, h)

  pub put_more : (new : Queue K O) → Puts cmp part new m n → (a : Item K O) → Parks cmp n a → Holds new.list.items a ⊎ Parks cmp m a
  put_more new u a p = more_case a p.0 p.1 new (is_at (cmp part) p.0) (u p.0) p.2 p.3

-- a part's queue, with one more key
pub parked_more : {K O : Type 0} (cmp : K → K → Ordering) (part : K) (old mid new : List (K × Queue K O)) (list : List (Waiting K O)) (w : Waiting K O) (q : Queue K O) → ((a : Item K O) → Holds list a → Parks cmp old a) → ((a : Item K O) → Parks cmp mid a → Parks cmp old a) → q.list.items ≡ list ++ w ∷ [] → Puts cmp part q mid new → (a : Item K O) → Parks cmp new a → (w.item ≡ a) ⊎ Parks cmp old a
parked_more {K} {O} cmp part old mid new list w q out less is u a p = elim (put_more cmp part mid new q u a p) as (λ _. (w.item ≡ a) ⊎ Parks cmp old a) [
  | inl l ↦ (elim (holds_push list w a (subst (λ (ws : List (Waiting K O)). Holds ws a) is l)) as (λ _. (w.item ≡ a) ⊎ Parks cmp old a) [ inl e ↦ inl e | inr h ↦ inr (out a h) ])
  | inr r ↦ inr (less a r)
]

-- a part's queue is put to the woken
pub woken_more : {K O : Type 0} (cmp : K → K → Ordering) (old mid : List (K × Queue K O)) (list woken after : List (Waiting K O)) → ((a : Item K O) → Holds list a → Parks cmp old a) → ((a : Item K O) → Parks cmp mid a → Parks cmp old a) → after ≡ woken ++ list → (a : Item K O) → Parks cmp mid a ⊎ Holds after a → Parks cmp old a ⊎ Holds woken a
woken_more cmp old mid list woken after out less is a (inl p) = inl (less a p)
woken_more {K} {O} cmp old mid list woken after out less is a (inr h) = elim (holds_append woken list a (subst (λ (ws : List (Waiting K O)). Holds ws a) is h)) as (λ _. Parks cmp old a ⊎ Holds woken a) [
  | inl l ↦ inr l
  | inr r ↦ inl (out a r)
]
