-- Numbers that use the texts of a pool in order.
use Rattle.std.proofs.Common.{◌≡◌, ◌∙◌, ◌++◌, ◌<◌, ◌≤◌, ◌+◌, ℕ, List, [], ◌∷◌, Bool, true, false, cond, length, length-append, map, sym, ap, ap₂, refl, zero, suc, arith, Option, Some, None, subst}
use Rattle.std.specs.Prelude.{slice_get, take, drop, nat_lt, nat_eq}
use Rattle.std.specs.List.{list_all, flat_map}
use Rattle.std.proofs.lemmas.Bool.{and_from, ltb-true, eqb-true, lt-ltb, le-ltb, eq-eqb}
use Rattle.std.proofs.lemmas.List.{take-append-drop, length-take-le}
use Rattle.step_cache.specs.Checking.{use_number, then_uses, uses_all}
use Rattle.step_cache.specs.Decoding.{consed, all_some}
use Rattle.step_cache.specs.Pools.{has_text, with_text, with_texts, number_in}
use Rattle.step_cache.proofs.PoolLemmas.{Extends, extends-all, extends-then, has_push, number_more, number_last, with_texts-append}
use Rattle.step_cache.proofs.OnceLemmas.{EachOnce, number_below, number_end, has_at}

-- a pool, and one that it became
pub record Within (pool more : List (List ℕ)) : Type 0 where
  pub extends : Extends pool more
  pub shorter : length pool ≤ length more

with_longer : (pool : List (List ℕ)) (text : List ℕ) → length pool ≤ length (with_text pool text)
unfolding with_text
with_longer pool text = step (has_text pool text)
  where
    step : (b : Bool) → length pool ≤ length (cond b pool (pool ++ text ∷ []))
    step true = omega arith
    step false = omega (arith, length-append pool (text ∷ []))

texts_longer : (pool texts : List (List ℕ)) → length pool ≤ length (with_texts pool texts)
texts_longer pool [] = omega arith
texts_longer pool (t ∷ texts) = omega (arith, with_longer pool t, texts_longer (with_text pool t) texts)

pub within_all : (pool texts : List (List ℕ)) → Within pool (with_texts pool texts)
within_all pool texts = record { extends = extends-all pool texts; shorter = texts_longer pool texts }

pub within-then : (a b c : List (List ℕ)) → Within a b → Within b c → Within a c
within-then a b c f g = record { extends = extends-then a b c f.extends g.extends; shorter = omega (arith, f.shorter, g.shorter) }

-- a text that is put has the next number, or that of a used one
pub use_put : (whole pool : List (List ℕ)) (text : List ℕ) → Within (with_text pool text) whole
    → use_number (length whole) (length pool) (number_in whole text) ≡ Some (length (with_text pool text))
unfolding with_text use_number
use_put whole pool text w = step (has_text pool text) refl w
  where
    step : (b : Bool) → has_text pool text ≡ b → Within (cond b pool (pool ++ text ∷ [])) whole
        → cond (nat_lt (number_in whole text) (length pool)) (Some (length pool)) (cond (nat_eq (number_in whole text) (length pool)) (cond (nat_lt (length pool) (length whole)) (Some (length pool + 1)) None) None)
        ≡ Some (length (cond b pool (pool ++ text ∷ [])))
    step true h w =
        let is = w.extends.number text h in
        let less = number_below pool text h in
        let yes : nat_lt (number_in whole text) (length pool) ≡ true = lt-ltb (number_in whole text) (length pool) (omega (arith, is, less)) in rw yes refl
    step false h w =
        let put : has_text (pool ++ text ∷ []) text ≡ true = has_push pool text in
        let is : number_in whole text ≡ length pool = w.extends.number text put ∙ number_last pool text h ∙ number_end pool text h in
        let long = length-append pool (text ∷ []) in
        let more = w.shorter in
        let no : nat_lt (number_in whole text) (length pool) ≡ false = le-ltb (number_in whole text) (length pool) (omega (arith, is)) in
        let yes : nat_eq (number_in whole text) (length pool) ≡ true = eq-eqb (number_in whole text) (length pool) is in
        let room : nat_lt (length pool) (length whole) ≡ true = lt-ltb (length pool) (length whole) (omega (arith, long, more)) in
        rw (no, yes, room) (ap Some (sym long))

-- numbers of items count the texts of the items
abbrev pub Counts : {A B : Type 0} → List (List ℕ) → (B → ℕ → Option ℕ) → (A → B) → (A → List (List ℕ)) → Type 0
Counts {A} whole f number texts = (x : A) (pool : List (List ℕ)) → Within (with_texts pool (texts x)) whole
    → f (number x) (length pool) ≡ Some (length (with_texts pool (texts x)))

pub counts_list : {A B : Type 0} (whole : List (List ℕ)) (f : B → ℕ → Option ℕ) (number : A → B) (texts : A → List (List ℕ))
    → Counts whole f number texts → Counts whole (uses_all f) (map number) (flat_map texts)
counts_list whole f number texts counts [] pool w = refl
counts_list whole f number texts counts (x ∷ xs) pool w =
    let first = with_texts pool (texts x) in
    let joins : with_texts pool (texts x ++ flat_map texts xs) ≡ with_texts first (flat_map texts xs) = with_texts-append pool (texts x) (flat_map texts xs) in
    let rest : Within (with_texts first (flat_map texts xs)) whole = subst (λ (p : List (List ℕ)). Within p whole) joins w in
    let here : Within first whole = within-then first (with_texts first (flat_map texts xs)) whole (within_all first (flat_map texts xs)) rest in
    ap (λ (seen : Option ℕ). then_uses seen (uses_all f (map number xs))) (counts x pool here)
    ∙ counts_list whole f number texts counts xs first rest
    ∙ ap (λ (p : List (List ℕ)). Some (length p)) (sym joins)

get_take : (pool : List (List ℕ)) (s n : ℕ) → n < s → slice_get (take s pool) n ≡ slice_get pool n
get_take pool zero n l = absurd (omega arith)
get_take [] (suc s) n l = refl
get_take (p ∷ pool) (suc s) zero l = refl
get_take (p ∷ pool) (suc s) (suc n) l = get_take pool s n (omega arith)

take_next : (pool : List (List ℕ)) (s : ℕ) (text : List ℕ) → slice_get pool s ≡ Some text → take (suc s) pool ≡ take s pool ++ text ∷ []
take_next [] s text e = cc
take_next (p ∷ pool) zero text e = let same : p ≡ text = cc in ap (λ (t : List ℕ). t ∷ []) same
take_next (p ∷ pool) (suc s) text e = ap (λ (ts : List (List ℕ)). p ∷ ts) (take_next pool s text e)

-- a text of a used number, or of the next
pub use_found : (pool : List (List ℕ)) (s n t : ℕ) (text : List ℕ) → EachOnce pool → s ≤ length pool → slice_get pool n ≡ Some text
    → use_number (length pool) s n ≡ Some t → (t ≤ length pool) × (with_text (take s pool) text ≡ take t pool)
unfolding use_number with_text
use_found pool s n t text once le at e = step (nat_lt n s) (nat_eq n s) (nat_lt s (length pool)) refl refl refl e
  where
    step : (a b c : Bool) → nat_lt n s ≡ a → nat_eq n s ≡ b → nat_lt s (length pool) ≡ c
        → cond a (Some s) (cond b (cond c (Some (s + 1)) None) None) ≡ Some t
        → (t ≤ length pool) × (cond (has_text (take s pool) text) (take s pool) (take s pool ++ text ∷ []) ≡ take t pool)
    step true b c fa fb fc e =
        let same : s ≡ t = cc in
        let has = has_at (take s pool) n text (get_take pool s n (ltb-true n s fa) ∙ at) in
        (omega (arith, same, le), rw has (ap (λ (k : ℕ). take k pool) same))
    step false true true fa fb fc e =
        let is : n ≡ s = eqb-true n s fb in
        let same : s + 1 ≡ t = cc in
        let here : slice_get pool s ≡ Some text = ap (slice_get pool) (sym is) ∙ at in
        let next : suc s ≡ t = omega (arith, same) in
        let room = ltb-true s (length pool) fc in
        (omega (arith, same, room), lacks (has_text (take s pool) text) refl here ∙ ap (λ (k : ℕ). take k pool) next)
      where
        lacks : (b : Bool) → has_text (take s pool) text ≡ b → slice_get pool s ≡ Some text
            → cond b (take s pool) (take s pool ++ text ∷ []) ≡ take (suc s) pool
        lacks true h here =
            let front = number_more (take s pool) (drop s pool) text h in
            let whole : number_in pool text ≡ number_in (take s pool) text = ap (λ (p : List (List ℕ)). number_in p text) (sym (take-append-drop s pool)) ∙ front in
            let below = number_below (take s pool) text h in
            let long = length-take-le s pool le in
            absurd (omega (arith, whole, below, long, once s text here))
        lacks false h here = sym (take_next pool s text here)
    step false true false fa fb fc e = cc
    step false false c fa fb fc e = cc

-- what is read by a number is numbered so, and uses its texts
pub record IsFound {A B : Type 0} (pool : List (List ℕ)) (number : A → B) (value : A → Bool) (texts : A → List (List ℕ)) (y : B) (x : A) (s t : ℕ) : Type 0 where
  pub most : t ≤ length pool
  pub puts : with_texts (take s pool) (texts x) ≡ take t pool
  pub is : y ≡ number x
  pub passes : value x ≡ true

abbrev pub Finds : {A B : Type 0} → List (List ℕ) → (B → Option A) → (B → ℕ → Option ℕ) → (A → B) → (A → Bool) → (A → List (List ℕ)) → Type 0
Finds {A} {B} pool d f number value texts = (y : B) (x : A) (s t : ℕ) → s ≤ length pool → d y ≡ Some x → f y s ≡ Some t
    → IsFound pool number value texts y x s t

pub finds_list : {A B : Type 0} (pool : List (List ℕ)) (d : B → Option A) (f : B → ℕ → Option ℕ) (number : A → B) (value : A → Bool) (texts : A → List (List ℕ))
    → Finds pool d f number value texts → Finds pool (all_some d) (uses_all f) (map number) (list_all value) (flat_map texts)
finds_list pool d f number value texts finds [] [] s t le e u =
    let same : s ≡ t = cc in
    record { most = omega (arith, same, le); puts = ap (λ (k : ℕ). take k pool) same; is = refl; passes = refl }
finds_list pool d f number value texts finds [] (x ∷ xs) s t le e u = cc
finds_list {A} {B} pool d f number value texts finds (y ∷ ys) whole s t le e u =
    step (d y) (all_some d ys) (f y s) refl refl refl e u (λ xs r l g v. finds_list pool d f number value texts finds ys xs r t l g v)
  where
    step : (a : Option A) (b : Option (List A)) (c : Option ℕ) → d y ≡ a → all_some d ys ≡ b → f y s ≡ c → consed a b ≡ Some whole
        → then_uses c (uses_all f ys) ≡ Some t
        → ((xs : List A) (r : ℕ) → r ≤ length pool → all_some d ys ≡ Some xs → uses_all f ys r ≡ Some t → IsFound pool (map number) (list_all value) (flat_map texts) ys xs r t)
        → IsFound pool (map number) (list_all value) (flat_map texts) (y ∷ ys) whole s t
    step None b c fa fb fc e u rest = cc
    step (Some x) None c fa fb fc e u rest = cc
    step (Some x) (Some xs) None fa fb fc e u rest = cc
    step (Some x) (Some xs) (Some r) fa fb fc e u rest =
        let one = finds y x s r le fa fc in
        let more = rest xs r one.most fb u in
        let is : x ∷ xs ≡ whole = cc in
        let row : B → List B → List B = λ a b. a ∷ b in
        subst (λ (w : List A). IsFound pool (map number) (list_all value) (flat_map texts) (y ∷ ys) w s t) is (record {
          most = more.most;
          puts = with_texts-append (take s pool) (texts x) (flat_map texts xs) ∙ ap (λ (p : List (List ℕ)). with_texts p (flat_map texts xs)) one.puts ∙ more.puts;
          is = ap₂ row one.is more.is;
          passes = and_from (value x) (list_all value xs) one.passes more.passes;
        })
