use Rattle.std.proofs.Common.{arith, ◌∙◌, sym}
use Rattle.volume_reader.proofs.ErasedLemmas.{erased_end, erased_more, erased_stop}
use Rattle.volume_reader.proofs.erased.erased_from.Goals as goal

pub loop-end-init : goal.loop-end-init
loop-end-init c = record { inside = omega arith; after = erased_end c.args.erase c.args.bytes.now }

pub loop-end-preserved : goal.loop-end-preserved
loop-end-preserved c = record {
  inside = omega arith;
  after = erased_more c.args.erase c.args.bytes.now c.loop-end.end (omega arith) c.loop-end.invariant.inside (c.if-bytes-end.false ∙ c.free_byte-free.ensures) c.loop-end.invariant.after;
}

pub returns-then-bytes-end-clause-value : goal.returns-then-bytes-end-clause-value
returns-then-bytes-end-clause-value c =
    erased_stop c.args.erase c.args.bytes.now c.loop-end.end (omega arith) c.loop-end.invariant.inside (λ e. c.if-bytes-end.true (e ∙ sym c.free_byte-free.ensures)) c.loop-end.invariant.after
