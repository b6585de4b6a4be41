-- Which descriptions are known.
use Rattle.std.specs.Prelude.{find, nat_eq}
use Rattle.std.specs.Option.{is_some}
use Rattle.std.specs.Cmp.Lexicographic.{pointwise}
use Rattle.std.proofs.Common.{◌≡◌, ℕ, true, false, List, [], ◌∷◌, ◌++◌, Some, refl, cond}
use Rattle.doc_types.specs.declared.module.InfDoc.{InfDoc}
use Rattle.library_choice.specs.Closure.{known, is_known}

pub first_known : (inf : InfDoc) (path : List ℕ) → pointwise nat_eq inf.at.path path ≡ true → is_known (inf ∷ []) path ≡ true
unfolding is_known known
first_known inf path e = rw e refl

pub still_known : (infs more : List InfDoc) (path : List ℕ) → is_known infs path ≡ true → is_known (infs ++ more) path ≡ true
unfolding is_known known
still_known [] more path e = absurd cc
still_known (inf ∷ infs) more path e =
    (elim (pointwise nat_eq inf.at.path path) as (λ b. is_some (cond b (Some inf) (find (λ (inf : InfDoc). pointwise nat_eq inf.at.path path) infs)) ≡ true
    → is_some (cond b (Some inf) (find (λ (inf : InfDoc). pointwise nat_eq inf.at.path path) (infs ++ more))) ≡ true) [
      | true ↦ λ e. refl
      | false ↦ λ e. still_known infs more path e
    ]) e

pub known_behind : (infs more : List InfDoc) (path : List ℕ) → is_known more path ≡ true → is_known (infs ++ more) path ≡ true
unfolding is_known known
known_behind [] more path e = e
known_behind (inf ∷ infs) more path e =
    elim (pointwise nat_eq inf.at.path path) as (λ b. is_some (cond b (Some inf) (find (λ (inf : InfDoc). pointwise nat_eq inf.at.path path) (infs ++ more))) ≡ true) [
      | true ↦ refl
      | false ↦ known_behind infs more path e
    ]
