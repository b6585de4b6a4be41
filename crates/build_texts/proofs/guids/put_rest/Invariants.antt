use Rattle.std.proofs.Common.{◌≡◌, ◌++◌, length, codes, ◌∷◌, []}
use Rattle.std.specs.List.{flat_map}
use Rattle.pcd_values.specs.Printing.{number_text}
use Rattle.build_texts.proofs.guids.put_rest.Given as goal

abbrev pub invariant-loop-left : goal.invariant-loop-left
invariant-loop-left l = l.out.items ++ flat_map (λ c. codes ", " ++ number_text (c ∷ [])) l.left ≡ l.fn.out.items ++ flat_map (λ c. codes ", " ++ number_text (c ∷ [])) l.bytes

abbrev pub decreases-loop-left : goal.decreases-loop-left
decreases-loop-left l = length l.left
