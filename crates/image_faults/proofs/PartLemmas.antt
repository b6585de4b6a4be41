-- Outcomes of parts, and tests that hold of them.
use Rattle.std.proofs.Common.{All, Bool, Err, List, Ok, Result, [], map, refl, subst, true, ◌∷◌, ◌≡◌}
use Rattle.std.proofs.lemmas.List.Elements.{All-cons, All-head, All-nil, All-tail}
use Rattle.std.specs.List.{list_all}
use Rattle.build_base.specs.First.{all_ok, with_front}
use Rattle.build_base.specs.declared.fault.Fault.{Fault}
use Rattle.image_rebase.proofs.SameLemmas.{through}

tested_front : {A : Type 0} (test : A → Bool) (x : A) (rest : Result (List A) Fault) (xs : List A) → test x ≡ true → ((ys : List A) → rest ≡ Ok ys → list_all test ys ≡ true)
    → with_front (x ∷ []) rest ≡ Ok xs → list_all test xs ≡ true
tested_front test x (Ok ys) xs t r e =
    let k : x ∷ ys ≡ xs = cc in subst (λ zs. list_all test zs ≡ true) k (rw t (r ys refl))
tested_front test x (Err fault) xs t r e = absurd cc

-- a test that holds of each outcome holds of all
pub all_tested : {A B : Type 0} (test : B → Bool) (f : A → Result B Fault) (items : List A) (bs : List B) → ((a : A) (b : B) → f a ≡ Ok b → test b ≡ true)
    → all_ok (map f items) ≡ Ok bs → list_all test bs ≡ true
all_tested test f [] bs h e = let k : [] ≡ bs = cc in subst (λ zs. list_all test zs ≡ true) k refl
all_tested test f (a ∷ items) bs h e =
    through (f a) (λ b. with_front (b ∷ []) (all_ok (map f items))) bs e
    (λ b g k. tested_front test b (all_ok (map f items)) bs (h a b g) (λ ys r. all_tested test f items ys h r) k)

kept_front : {A : Type 0} (P : A → Type 0) (x : A) (rest : Result (List A) Fault) (xs : List A) → P x → ((ys : List A) → rest ≡ Ok ys → All P ys) → with_front (x ∷ []) rest ≡ Ok xs → All P xs
kept_front P x (Ok ys) xs p r e = let k : x ∷ ys ≡ xs = cc in subst (All P) k (All-cons P x ys p (r ys refl))
kept_front P x (Err fault) xs p r e = absurd cc

-- what each item's outcome has by what the item has, all outcomes have
pub all_kept : {A B : Type 0} (P : A → Type 0) (Q : B → Type 0) (f : A → Result B Fault) (items : List A) (bs : List B) → ((a : A) (b : B) → P a → f a ≡ Ok b → Q b)
    → All P items → all_ok (map f items) ≡ Ok bs → All Q bs
all_kept P Q f [] bs h p e = let k : [] ≡ bs = cc in subst (All Q) k (All-nil Q)
all_kept P Q f (a ∷ items) bs h p e =
    through (f a) (λ b. with_front (b ∷ []) (all_ok (map f items))) bs e
    (λ b g k. kept_front Q b (all_ok (map f items)) bs (h a b (All-head P a items p) g) (λ ys r. all_kept P Q f items ys h (All-tail P a items p) r) k)

-- what follows of two facts of each item
pub zipped : {A : Type 0} (P Q R : A → Type 0) → ((a : A) → P a → Q a → R a) → (items : List A) → All P items → All Q items → All R items
zipped P Q R h [] p q = All-nil R
zipped P Q R h (a ∷ items) p q =
    All-cons R a items (h a (All-head P a items p) (All-head Q a items q)) (zipped P Q R h items (All-tail P a items p) (All-tail Q a items q))
