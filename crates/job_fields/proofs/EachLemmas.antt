-- Values that are all there.
use Rattle.std.proofs.Common.{◌≡◌, ◌∙◌, ◌++◌, true, false, List, [], ◌∷◌, map, Option, Some, None, sym, ap, refl, append_assoc}
use Rattle.std.specs.List.{AllByRecursion}
use Rattle.std.specs.Option.{is_some}
use Rattle.job_fields.specs.Readings.{before, each_there, listed}

-- the items of a loop, made in front of what is left
abbrev pub in_front : {A : Type 0} → List A → Option (List A) → Option (List A)
in_front made None = None
in_front made (Some xs) = Some (made ++ xs)

pub none_made : {A : Type 0} (rest : Option (List A)) → in_front [] rest ≡ rest
none_made None = refl
none_made (Some xs) = refl

-- one more was made
pub one_more : {A B : Type 0} (f : B → Option A) (made : List A) (y : B) (ys : List B) (x : A) (all : Option (List A)) → in_front made (each_there (map f (y ∷ ys))) ≡ all
    → f y ≡ Some x → in_front (made ++ x ∷ []) (each_there (map f ys)) ≡ all
unfolding each_there
one_more {A} f made y ys x all was e =
    sym (step (each_there (map f ys))) ∙ ap (λ (o : Option A). in_front made (before o (each_there (map f ys)))) (sym e) ∙ was
  where
    step : (rest : Option (List A)) → in_front made (before (Some x) rest) ≡ in_front (made ++ x ∷ []) rest
    step None = refl
    step (Some xs) = ap Some (sym (append_assoc made (x ∷ []) xs))

-- one wasn't there, so not all are
pub one_less : {A B : Type 0} (f : B → Option A) (made : List A) (y : B) (ys : List B) (all : Option (List A)) → in_front made (each_there (map f (y ∷ ys))) ≡ all
    → f y ≡ None → all ≡ None
unfolding each_there
one_less {A} f made y ys all was e =
    sym was ∙ ap (λ (o : Option A). in_front made (before o (each_there (map f ys)))) e

pub one_pushed : {A B : Type 0} (f : B → Option A) (made : List A) (y : B) (ys : List B) (all : Option (List A)) → in_front made (each_there (map f (y ∷ ys))) ≡ all
    → true ≡ is_some (f y) → in_front (made ++ listed (f y)) (each_there (map f ys)) ≡ all
unfolding each_there
one_pushed {A} f made y ys all was e = step (f y) (each_there (map f ys)) was e
  where
    step : (o : Option A) (rest : Option (List A)) → in_front made (before o rest) ≡ all → true ≡ is_some o → in_front (made ++ listed o) rest ≡ all
    step None rest h t = absurd cc
    step (Some x) None h t = h
    step (Some x) (Some xs) h t = ap Some (append_assoc made (x ∷ []) xs) ∙ h

pub one_left_out : {A B : Type 0} (f : B → Option A) (made : List A) (y : B) (ys : List B) (all : Option (List A)) → in_front made (each_there (map f (y ∷ ys))) ≡ all
    → false ≡ is_some (f y) → all ≡ None
unfolding each_there
one_left_out {A} f made y ys all was e = step (f y) was e
  where
    step : (o : Option A) → in_front made (before o (each_there (map f ys))) ≡ all → false ≡ is_some o → all ≡ None
    step None h t = sym h
    step (Some x) h t = absurd cc

-- values that are there one by one are there together
pub all_there : {A B : Type 0} (f : B → Option A) (xs : List B) → AllByRecursion (λ x. is_some (f x) ≡ true) xs → is_some (each_there (map f xs)) ≡ true
unfolding each_there
all_there f [] h = refl
all_there {A} f (x ∷ xs) h = by (f x) (each_there (map f xs)) h.0 (all_there f xs h.1)
  where
    by : (o : Option A) (rest : Option (List A)) → is_some o ≡ true → is_some rest ≡ true → is_some (before o rest) ≡ true
    by None rest a b = absurd cc
    by (Some y) None a b = absurd cc
    by (Some y) (Some ys) a b = refl
