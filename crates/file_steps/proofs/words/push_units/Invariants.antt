use Rattle.std.proofs.Common.{◌≡◌, ◌++◌, ◌∷◌, [], length}
use Rattle.std.specs.List.{flat_map}
use Rattle.file_steps.proofs.words.push_units.Given as goal

abbrev pub invariant-loop-left : goal.invariant-loop-left
invariant-loop-left l = l.out.items ++ flat_map (λ byte. byte ∷ 0 ∷ []) l.left ≡ l.fn.out.items ++ flat_map (λ byte. byte ∷ 0 ∷ []) l.text

abbrev pub decreases-loop-left : goal.decreases-loop-left
decreases-loop-left l = length l.left
