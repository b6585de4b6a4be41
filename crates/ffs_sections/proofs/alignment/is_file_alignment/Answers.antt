use Rattle.std.proofs.Common.{◌≡◌, ◌==◌, ℕ, List, true, ◌∙◌, sym, subst, eq-eqb}
use Rattle.std.specs.List.{list_any, Contains}
use Rattle.std.proofs.lemmas.List.Folds.{Any-from_list_any, list_any_at}
use Rattle.std.proofs.lemmas.Bool.{eqb-true}
use Rattle.ffs_sections.specs.Alignment.{alignments}
use Rattle.ffs_sections.proofs.alignment.is_file_alignment.Goals as goal

found : (x : ℕ) (xs : List ℕ) → list_any (λ y. y == x) xs ≡ true → Contains xs x
found x xs h =
    let any = Any-from_list_any (λ y. y == x) xs h in
    let same : any.1 ≡ x = eqb-true any.1 x any.4 in
    subst (λ z. Contains xs z) same (any.0, any.2, any.3)

finds : (x : ℕ) (xs : List ℕ) → Contains xs x → list_any (λ y. y == x) xs ≡ true
finds x xs c = list_any_at (λ y. y == x) xs c.0 x c.1 (eq-eqb _ x c.2)

pub returns-clause-stated : goal.returns-clause-stated
returns-clause-stated c = (λ h. found c.args.align alignments (sym c.contains.ensures.value ∙ h), λ k. c.contains.ensures.value ∙ finds c.args.align alignments k)
