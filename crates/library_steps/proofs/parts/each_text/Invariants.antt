use Rattle.std.proofs.Common.{◌≡◌, map, take}
use Rattle.library_steps.proofs.parts.each_text.Given as goal

abbrev pub invariant-loop-text : goal.invariant-loop-text
invariant-loop-text l = l.rows ≡ map (λ text. text.now) (take l.text-index l.texts)
