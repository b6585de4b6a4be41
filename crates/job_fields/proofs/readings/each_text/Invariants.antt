use Rattle.std.proofs.Common.{◌≡◌, map, take}
use Rattle.job_fields.proofs.readings.each_text.Given as goal

abbrev pub invariant-loop-text : goal.invariant-loop-text
invariant-loop-text l = l.rows ≡ map (λ text. text.now) (take l.text-index l.texts)
