-- What is told of an ask of a stage, where all answers are by one function: the answer to it. The
-- form is this project's own.
use Rattle.std.specs.Ordering.{is_eq}
use Rattle.std.specs.Cmp.{IsTotalOrder, tied_itself}
use Rattle.std.specs.Cmp.Lexicographic.{same_text}
use Rattle.std.specs.declared.cmp.Ordering.{Ordering}
use Rattle.std.proofs.Common.{◌≡◌, ℕ, zero, suc, arith, Bool, true, false, cond, List, [], ◌∷◌, map, Contains, Some, refl, sym, ap, ◌∙◌}
use Rattle.std.proofs.lemmas.Bool.Decides.{nat_tests}
use Rattle.std.proofs.lemmas.Cmp.{nat_list_eq_equiv}
use Rattle.std.proofs.lemmas.Map.Lookups.{CmpEqualImpliesEq}
use Rattle.std.proofs.lemmas.Map.Views.{tells_apart}
use Rattle.step_engine.specs.declared.talk.Ask.{Ask}
use Rattle.step_engine.specs.declared.talk.Ask.TheVariants as ask
use Rattle.step_engine.specs.declared.talk.Answer.{Answer}
use Rattle.build_stages.specs.Stages.{with_answers}
use Rattle.build_stages.specs.Writing.{is_file, is_field, is_part, answer_where}

-- a test of an ask holds for that ask, and for no other

pub file_is : {K : Type 0} (path : List ℕ) (a : Ask K) → is_file path a ≡ true → a ≡ ask.File path
file_is path (ask.File q) e = ap ask.File (sym (same_text path q (sym e)))
file_is path (ask.Field i) e = absurd cc
file_is path (ask.Part k) e = absurd cc

pub field_is : {K : Type 0} (n : ℕ) (a : Ask K) → is_field n a ≡ true → a ≡ ask.Field n
field_is n (ask.File q) e = absurd cc
field_is n (ask.Field i) e =
    let same : n ≡ i = grind (arith, nat_tests, e) in ap ask.Field (sym same)
field_is n (ask.Part k) e = absurd cc

pub part_is : {K : Type 0} (cmp : K → K → Ordering) → CmpEqualImpliesEq cmp → (k : K) (a : Ask K)
    → is_part cmp k a ≡ true → a ≡ ask.Part k
part_is cmp key k (ask.File q) e = absurd cc
part_is cmp key k (ask.Field i) e = absurd cc
part_is cmp key k (ask.Part l) e = ap ask.Part (sym (tells_apart key k l e))

pub file_itself : (K : Type 0) (path : List ℕ) → is_file {K = K} path (ask.File path) ≡ true
file_itself K path = nat_list_eq_equiv.refl path

pub field_itself : (K : Type 0) (n : ℕ) → is_field {K = K} n (ask.Field n) ≡ true
field_itself K n = grind (arith, nat_tests)

pub part_itself : {K : Type 0} (cmp : K → K → Ordering) → IsTotalOrder cmp → (k : K)
    → is_part cmp k (ask.Part k) ≡ true
part_itself cmp total k = ap is_eq (tied_itself total k)

-- the first answer to an ask that is among those of the stage
told_first : {K O : Type 0} (is : Ask K → Bool) (a : Ask K) → ((b : Ask K) → is b ≡ true → b ≡ a)
    → is a ≡ true → (f : Ask K → Answer O) (asks : List (Ask K)) → Contains asks a
    → answer_where is (with_answers asks (map f asks)) ≡ Some (f a)
told_first is a one itself f [] c = absurd (omega (arith, c.1))
told_first {K} {O} is a one itself f (b ∷ asks) (zero, l, e) =
    ap (λ t. cond t (Some (f b)) (answer_where is (with_answers asks (map f asks))))
    (ap is e ∙ itself) ∙ ap (λ (x : Ask K). Some (f x)) e
told_first {K} {O} is a one itself f (b ∷ asks) (suc i, l, e) =
    (elim (is b) as (λ t. is b ≡ t
    → cond t (Some (f b)) (answer_where is (with_answers asks (map f asks))) ≡ Some (f a)) [
      | true ↦ λ t. ap (λ (x : Ask K). Some (f x)) (one b t)
      | false ↦ λ t. told_first is a one itself f asks (i, omega (arith, l), e)
    ]) refl

pub told_file : {K O : Type 0} (f : Ask K → Answer O) (asks : List (Ask K)) (path : List ℕ)
    → Contains asks (ask.File path)
    → answer_where (is_file path) (with_answers asks (map f asks)) ≡ Some (f (ask.File path))
told_file {K} {O} f asks path c =
    told_first (is_file path) (ask.File path) (file_is path) (file_itself K path) f asks c

pub told_field : {K O : Type 0} (f : Ask K → Answer O) (asks : List (Ask K)) (n : ℕ)
    → Contains asks (ask.Field n)
    → answer_where (is_field n) (with_answers asks (map f asks)) ≡ Some (f (ask.Field n))
told_field {K} {O} f asks n c =
    told_first (is_field n) (ask.Field n) (field_is n) (field_itself K n) f asks c

pub told_part : {K O : Type 0} (cmp : K → K → Ordering) → IsTotalOrder cmp → CmpEqualImpliesEq cmp
    → (f : Ask K → Answer O) (asks : List (Ask K)) (k : K) → Contains asks (ask.Part k)
    → answer_where (is_part cmp k) (with_answers asks (map f asks)) ≡ Some (f (ask.Part k))
told_part cmp total key f asks k c =
    told_first (is_part cmp k) (ask.Part k) (part_is cmp key k) (part_itself cmp total k) f asks c
