use Rattle.edk_build.specs.Emitting.{labelled}
use Rattle.edk_build.specs.Outcome.{pair_of}
use Rattle.edk_build.proofs.MadeLemmas.{one_more, source_at}
use Rattle.edk_build.proofs.made.files_of.Goals as goal

pub loop-output-preserved : goal.loop-output-preserved
loop-output-preserved c = λ value tells.
    one_more (labelled c.args.label.now) (pair_of value) c.args.outputs.now c.loop-output.output-index c.output-item.result _ _ _
    c.loop-output-test.true c.output-item.is (c.loop-output.invariant value tells)
    (c.in_ok-file_of.ensures value tells.agrees (source_at value c.args.cache.now c.args.outputs.now c.loop-output.output-index c.output-item.result tells c.loop-output-test.true c.output-item.is)) c.in_ok-push.ensures.ok
