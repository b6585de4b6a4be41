use Rattle.std.proofs.Common.{◌∙◌, [], ◌∷◌, map, take, drop, ◌+◌}
use Rattle.build_base.proofs.SpellingLemmas.{Spelled-then, SpelledCut-then, Spelled-file, SpelledCut-file}
use Rattle.edk_build.specs.FilePair.{output_of}
use Rattle.build_base.proofs.Steps.{map-passed, map-whole}
use Rattle.edk_build.proofs.file_out.write_all.Goals as goal

pub returns-in-Err-clause-written : goal.returns-in-Err-clause-written
returns-in-Err-clause-written g c =
    let out = c.out-item.result in
    let w = c.in-Err.ensures.written in
    rw (map-whole output_of c.args.files.now c.loop-out.out-index out c.loop-out-test.true c.out-item.is)
    (SpelledCut-then _ _ _ (map output_of (take c.loop-out.out-index c.args.files.now)) (output_of out ∷ []) (map output_of (drop (c.loop-out.out-index + 1) c.args.files.now))
    c.loop-out.invariant.so_far (SpelledCut-file _ _ out.path out.bytes w.0 w.1 w.2 w.3))

pub loop-out-preserved : goal.loop-out-preserved
loop-out-preserved g c =
    let out = c.out-item.result in
    record {
      so_far =
          rw (map-passed output_of c.args.files.now c.loop-out.out-index out c.loop-out-test.true c.out-item.is)
          (Spelled-then _ _ _ (map output_of (take c.loop-out.out-index c.args.files.now)) (output_of out ∷ []) c.loop-out.invariant.so_far (Spelled-file _ _ out.path out.bytes c.in_default.ensures.written));
      no_fault = c.in_default.ensures.cause ∙ c.loop-out.invariant.no_fault;
    }
