-- How reads of paths without an edit go together.
use Rattle.std.proofs.Common.{◌≡◌, ℕ, ◌++◌, List, [], ◌∷◌, Option, None, sym, ap, ◌∙◌, subst, inl, inr}
use Rattle.std.proofs.lemmas.List.Elements.{Contains-append_cases}
use Rattle.step_engine.specs.Build.{added_to, HasReadUnedited}
use Rattle.step_engine.specs.Edits.{last_edit}
use Rattle.step_engine.proofs.Moves.{none_in, one_in, added_none, added_twice}
use Rattle.step_engine.specs.declared.edits.Edit.{Edit}

-- nothing was read
pub unedited_none : (edits : List Edit) (reads : Option (List (List ℕ))) → HasReadUnedited edits reads reads
unfolding HasReadUnedited
unedited_none edits reads = ([], added_none reads, λ p h. absurd (none_in p h))

-- one path was read, which has no edit
pub unedited_one : (edits : List Edit) (path : List ℕ) (reads reads' : Option (List (List ℕ))) → None ≡ last_edit None edits path → reads' ≡ added_to reads (path ∷ []) → HasReadUnedited edits reads reads'
unfolding HasReadUnedited
unedited_one edits path reads reads' e is = (path ∷ [], is, λ p h. subst (λ q. last_edit None edits q ≡ None) (one_in p path h) (sym e))

-- some were read, and then more
pub unedited_then : (edits : List Edit) (x y z : Option (List (List ℕ))) → HasReadUnedited edits x y → HasReadUnedited edits y z → HasReadUnedited edits x z
unfolding HasReadUnedited
unedited_then edits x y z a b = (
  a.0 ++ b.0,
  b.1 ∙ (ap (λ r. added_to r b.0) a.1 ∙ added_twice x a.0 b.0),
  λ p h. (elim (Contains-append_cases a.0 b.0 p h) as (λ _. last_edit None edits p ≡ None) [ inl l ↦ a.2 p l | inr r ↦ b.2 p r ]),
)
