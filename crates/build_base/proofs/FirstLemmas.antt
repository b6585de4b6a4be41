-- First conditions, and outcomes one after another.
use Rattle.std.proofs.Common.{◌≡◌, refl, Bool, true, false, List, [], ◌∷◌, ◌++◌, Result, Ok, Err, ap, sym, append_assoc}
use Rattle.build_base.specs.First.{or_else, first_holding, with_front}

pub first_holding_append : {T : Type 0} (xs ys : List (Bool × T)) → first_holding (xs ++ ys) ≡ or_else (first_holding xs) (first_holding ys)
first_holding_append [] ys = refl
first_holding_append ((true, x) ∷ xs) ys = refl
first_holding_append ((false, x) ∷ xs) ys = first_holding_append xs ys

pub front_none : {B F : Type 0} (r : Result (List B) F) → with_front [] r ≡ r
front_none (Ok xs) = refl
front_none (Err f) = refl

pub front_front : {B F : Type 0} (xs ys : List B) (r : Result (List B) F) → with_front xs (with_front ys r) ≡ with_front (xs ++ ys) r
front_front xs ys (Ok zs) = ap (λ z. Ok z) (sym (append_assoc xs ys zs))
front_front xs ys (Err f) = refl
