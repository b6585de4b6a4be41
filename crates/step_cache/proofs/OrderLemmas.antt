-- Entries that ascend.
use Rattle.std.proofs.Common.{◌≡◌, ◌∙◌, ◌++◌, ◌+◌, ℕ, List, [], ◌∷◌, Bool, true, false, cond, take, sym, ap, refl, All, zero, suc, subst}
use Rattle.std.specs.Cmp.{IsTotalOrder}
use Rattle.std.specs.Ordering.{ordering_reverse, is_lt}
use Rattle.std.specs.declared.cmp.Ordering.{Ordering}
use Rattle.std.specs.declared.cmp.Ordering.TheVariants.{Less, Equal, Greater}
use Rattle.std.proofs.lemmas.List.Elements.{All-contains, All-take, All-head, All-weaker, All-cons, All-nil, Contains-push}
use Rattle.step_engine.specs.Caches.{AreInOrder, put_entry}
use Rattle.step_engine.specs.declared.talk.Entry.{Entry}
use Rattle.step_pack.specs.KeyLaws.{keys_total}
use Rattle.step_pack.specs.Keys.{key_cmp}
use Rattle.step_pack.specs.declared.key.Key.{Key}
use Rattle.step_pack.specs.declared.out.Out.{Out}
use Rattle.step_cache.specs.Checking.{is_below, ascend}

less_is : (o : Ordering) → is_lt o ≡ true → o ≡ Less
less_is Less e = refl
less_is Equal e = cc
less_is Greater e = cc

-- an entry below the first of ascending ones is below all
below_all : (x : Entry Key Out) (xs : List (Entry Key Out)) → is_below x.key xs ≡ true → AreInOrder key_cmp xs
    → All (λ (y : Entry Key Out). key_cmp x.key y.key ≡ Less) xs
below_all x [] e o = All-nil (λ (y : Entry Key Out). key_cmp x.key y.key ≡ Less)
below_all x (y ∷ ys) e o =
    let P : Entry Key Out → Type 0 = λ z. key_cmp x.key z.key ≡ Less in
    let Q : Entry Key Out → Type 0 = λ z. key_cmp y.key z.key ≡ Less in
    let first = less_is (key_cmp x.key y.key) e in
    All-cons P y ys first (All-weaker Q P (λ z l. keys_total.trans x.key y.key z.key first l) ys o.0)

pub order_of : (xs : List (Entry Key Out)) → ascend xs ≡ true → AreInOrder key_cmp xs
unfolding ascend
order_of [] e = tt
order_of (x ∷ xs) e = step (is_below x.key xs) refl e (λ f. order_of xs f)
  where
    step : (b : Bool) → is_below x.key xs ≡ b → cond b (ascend xs) false ≡ true → (ascend xs ≡ true → AreInOrder key_cmp xs) → AreInOrder key_cmp (x ∷ xs)
    step true h e rest = let o = rest e in (below_all x xs h o, o)
    step false h e rest = cc

pub ascend_of : (xs : List (Entry Key Out)) → AreInOrder key_cmp xs → ascend xs ≡ true
unfolding ascend
ascend_of [] o = refl
ascend_of (x ∷ []) o = refl
ascend_of (x ∷ (y ∷ ys)) o =
    let P : Entry Key Out → Type 0 = λ z. key_cmp x.key z.key ≡ Less in
    let less : is_below x.key (y ∷ ys) ≡ true = ap is_lt (All-head P y ys o.0) in
    rw less (ascend_of (y ∷ ys) o.1)

-- an entry above all others goes to the end
pub put_last : {K O : Type 0} (cmp : K → K → Ordering) → IsTotalOrder cmp → (e : Entry K O) (xs : List (Entry K O)) → AreInOrder cmp (xs ++ e ∷ []) → put_entry cmp e xs ≡ xs ++ e ∷ []
put_last cmp total e [] o = refl
put_last {K} {O} cmp total e (x ∷ xs) o =
    let below : cmp x.key e.key ≡ Less = All-contains (λ (y : Entry K O). cmp x.key y.key ≡ Less) (xs ++ e ∷ []) e o.0 (Contains-push xs e) in
    let above : cmp e.key x.key ≡ Greater = total.antisymm e.key x.key ∙ ap ordering_reverse below in
    rw above (ap (λ (ys : List (Entry K O)). x ∷ ys) (put_last cmp total e xs o.1))

pub order_take : {K O : Type 0} (cmp : K → K → Ordering) (n : ℕ) (xs : List (Entry K O)) → AreInOrder cmp xs → AreInOrder cmp (take n xs)
order_take cmp zero xs o = tt
order_take cmp (suc n) [] o = tt
order_take {K} {O} cmp (suc n) (x ∷ xs) o =
    (All-take (λ (y : Entry K O). cmp x.key y.key ≡ Less) n xs o.0, order_take cmp n xs o.1)

-- the next of entries in order is put
pub put_next : (xs : List (Entry Key Out)) (x : Entry Key Out) (i : ℕ) (old new : List (Entry Key Out)) (own : Entry Key Out) → AreInOrder key_cmp xs
    → take (i + 1) xs ≡ take i xs ++ x ∷ [] → old ≡ take i xs → own ≡ x → new ≡ put_entry key_cmp own old → new ≡ take (i + 1) xs
put_next xs x i old new own o more was same is =
    let first : AreInOrder key_cmp (take i xs ++ x ∷ []) = subst (AreInOrder key_cmp) more (order_take key_cmp (i + 1) xs o) in
    is ∙ ap (λ (e : Entry Key Out). put_entry key_cmp e old) same ∙ ap (put_entry key_cmp x) was
    ∙ put_last key_cmp keys_total x (take i xs) first ∙ sym more
