use Rattle.std.proofs.Common.{◌≡◌, map, take}
use Rattle.job_fields.specs.Readings.{macro_of}
use Rattle.job_fields.proofs.macros.each_macro.Given as goal

abbrev pub invariant-loop-text : goal.invariant-loop-text
invariant-loop-text l = l.macros ≡ map macro_of (take l.text-index l.texts)
