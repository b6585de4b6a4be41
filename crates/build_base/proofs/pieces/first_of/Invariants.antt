use Rattle.std.proofs.Common.{◌≡◌, true, drop}
use Rattle.build_base.specs.Runs.{runs_bytes, are_blank}
use Rattle.build_base.proofs.pieces.first_of.Given as goal

abbrev pub invariant-loop-i : goal.invariant-loop-i
invariant-loop-i l = record {
  whole : runs_bytes (drop l.i l.runs) ≡ runs_bytes l.runs;
  blank : are_blank (drop l.i l.runs) ≡ true;
}
