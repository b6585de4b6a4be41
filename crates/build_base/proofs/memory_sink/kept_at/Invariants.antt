use Rattle.std.proofs.Common.{◌≡◌, drop}
use Rattle.build_base.specs.SinkState.{kept_at}
use Rattle.build_base.proofs.memory_sink.kept_at.Given as goal

abbrev pub invariant-loop-fail : goal.invariant-loop-fail
invariant-loop-fail l = kept_at l.fails l.call ≡ kept_at (drop l.fail-index l.fails) l.call
