-- Values that are read back from their numbers.
use Rattle.std.proofs.Common.{◌≡◌, ◌∙◌, ◌++◌, ℕ, Bool, true, List, [], ◌∷◌, map, Option, Some, None, sym, ap, ap₂, refl, zero, suc, subst, append_assoc}
use Rattle.std.specs.Prelude.{slice_get}
use Rattle.std.specs.List.{AllZip, list_all, flat_map}
use Rattle.std.specs.Option.{option_flatten}
use Rattle.packed_values.specs.Encoding.{Encoding, IsEncoding}
use Rattle.packed_values.specs.Plain.{and_left}
use Rattle.packed_values.specs.Parts.{and_right}
use Rattle.packed_values.proofs.WholeLemmas.{encoded_once}
use Rattle.step_cache.specs.Decoding.{IsDecoded, HasTexts, value_at, consed, all_some}
use Rattle.step_cache.specs.Pools.{has_text, number_in}
use Rattle.step_cache.proofs.PoolLemmas.{found_by_number, has_left, has_right}

-- a text of a value stands for that value
decoded_value : {A : Type 0} (encoding : Encoding A) (x : A) (given : Option A) → encoding.is_value x ≡ true → IsDecoded encoding (encoding.encode x) given → given ≡ Some x
decoded_value encoding x None v d = absurd (d x (record { value = v; text = refl }))
decoded_value encoding x (Some y) v d = ap Some (encoded_once encoding (encoding.encode x) y x d (record { value = v; text = refl }))

decoded_at : {A : Type 0} (encoding : Encoding A) (pool : List (List ℕ)) (rows : List (Option A)) (n : ℕ) (text : List ℕ)
    → AllZip (IsDecoded encoding) pool rows → slice_get pool n ≡ Some text → (given : Option A) × (slice_get rows n ≡ Some given) × IsDecoded encoding text given
decoded_at encoding [] [] n text z e = absurd (cc)
decoded_at encoding [] (r ∷ rows) n text z e = absurd z
decoded_at encoding (p ∷ pool) [] n text z e = absurd z
decoded_at encoding (p ∷ pool) (r ∷ rows) zero text z e =
    let same : p ≡ text = cc in (r, refl, subst (λ (t : List ℕ). IsDecoded encoding t r) same z.0)
decoded_at encoding (p ∷ pool) (r ∷ rows) (suc n) text z e = decoded_at encoding pool rows n text z.1 e

-- a value that a pool has is found by its number
pub value_back : {A : Type 0} (encoding : Encoding A) (pool : List (List ℕ)) (rows : List (Option A)) (x : A) → AllZip (IsDecoded encoding) pool rows
    → encoding.is_value x ≡ true → has_text pool (encoding.encode x) ≡ true → value_at rows (number_in pool (encoding.encode x)) ≡ Some x
value_back encoding pool rows x z v h =
    let at = decoded_at encoding pool rows (number_in pool (encoding.encode x)) (encoding.encode x) z (found_by_number pool (encoding.encode x) h) in
    ap option_flatten at.1 ∙ decoded_value encoding x at.0 v at.2

-- a value that is found by a number is that of the text there
pub value_from : {A : Type 0} (encoding : Encoding A) (pool : List (List ℕ)) (rows : List (Option A)) (n : ℕ) (x : A) → AllZip (IsDecoded encoding) pool rows
    → value_at rows n ≡ Some x → (encoding.is_value x ≡ true) × (slice_get pool n ≡ Some (encoding.encode x))
value_from encoding [] [] n x z e = absurd (cc)
value_from encoding [] (r ∷ rows) n x z e = absurd z
value_from encoding (p ∷ pool) [] n x z e = absurd z
value_from {A} encoding (p ∷ pool) (r ∷ rows) zero x z e =
    let encoded : IsEncoding encoding x p = subst (λ (given : Option A). IsDecoded encoding p given) e z.0 in
    (encoded.value, ap Some encoded.text)
value_from encoding (p ∷ pool) (r ∷ rows) (suc n) x z e = value_from encoding pool rows n x z.1 e

pub decoded_push : {A : Type 0} (encoding : Encoding A) (pool : List (List ℕ)) (rows : List (Option A)) (text : List ℕ) (given : Option A)
    → AllZip (IsDecoded encoding) pool rows → IsDecoded encoding text given → AllZip (IsDecoded encoding) (pool ++ text ∷ []) (rows ++ given ∷ [])
decoded_push encoding [] [] text given z d = (d, tt)
decoded_push encoding [] (r ∷ rows) text given z d = absurd z
decoded_push encoding (p ∷ pool) [] text given z d = absurd z
decoded_push encoding (p ∷ pool) (r ∷ rows) text given z d = (z.0, decoded_push encoding pool rows text given z.1 d)

-- each item whose texts the pool has is read back from its number
abbrev pub Reads : {A B : Type 0} → List (List ℕ) → (B → Option A) → (A → B) → (A → Bool) → (A → List (List ℕ)) → Type 0
Reads {A} pool d number value texts = (x : A) → value x ≡ true → HasTexts pool (texts x) → d (number x) ≡ Some x

pub reads_list : {A B : Type 0} (pool : List (List ℕ)) (d : B → Option A) (number : A → B) (value : A → Bool) (texts : A → List (List ℕ))
    → Reads pool d number value texts → Reads pool (all_some d) (map number) (list_all value) (flat_map texts)
reads_list pool d number value texts reads [] v h = refl
reads_list {A} pool d number value texts reads (x ∷ xs) v h =
    let join : Option A → Option (List A) → Option (List A) = λ a b. consed a b in
    ap₂ join (reads x (and_left (value x) (list_all value xs) v) (has_left pool (texts x) (flat_map texts xs) h))
    (reads_list pool d number value texts reads xs (and_right (value x) (list_all value xs) v) (has_right pool (texts x) (flat_map texts xs) h))

-- the items of a loop, made in front of what is left
abbrev pub in_front : {A : Type 0} → List A → Option (List A) → Option (List A)
in_front made None = None
in_front made (Some xs) = Some (made ++ xs)

-- one more was made
pub one_more : {A B : Type 0} (f : B → Option A) (made : List A) (y : B) (ys : List B) (x : A) (all : Option (List A)) → in_front made (all_some f (y ∷ ys)) ≡ all
    → f y ≡ Some x → in_front (made ++ x ∷ []) (all_some f ys) ≡ all
one_more {A} f made y ys x all was e =
    sym (step (all_some f ys)) ∙ ap (λ (o : Option A). in_front made (consed o (all_some f ys))) (sym e) ∙ was
  where
    step : (rest : Option (List A)) → in_front made (consed (Some x) rest) ≡ in_front (made ++ x ∷ []) rest
    step None = refl
    step (Some xs) = ap Some (sym (append_assoc made (x ∷ []) xs))

-- one wasn't given, so not all are
pub one_less : {A B : Type 0} (f : B → Option A) (made : List A) (y : B) (ys : List B) (all : Option (List A)) → in_front made (all_some f (y ∷ ys)) ≡ all
    → f y ≡ None → all ≡ None
one_less {A} f made y ys all was e =
    sym was ∙ ap (λ (o : Option A). in_front made (consed o (all_some f ys))) e
