use Rattle.std.proofs.Common.{◌≡◌, map, take}
use Rattle.build_base.specs.Spelling.{Spelled}
use Rattle.edk_build.specs.FilePair.{output_of}
use Rattle.edk_build.proofs.file_out.write_all.Given as goal

abbrev pub invariant-loop-out : goal.invariant-loop-out
invariant-loop-out g l = record {
  so_far : Spelled (g.S.Sink.written l.fn.sink) (g.S.Sink.written l.sink) (map output_of (take l.out-index l.files));
  no_fault : g.S.Sink.faults l.sink ≡ g.S.Sink.faults l.fn.sink;
}
