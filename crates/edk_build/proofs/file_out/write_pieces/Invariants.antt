use Rattle.std.proofs.Common.{length, ◌≡◌, ◌++◌, [], List, ℕ}
use Rattle.build_base.specs.declared.outside.Target.TheVariants.{Start, More}
use Rattle.build_base.specs.Spelling.{SpelledFile}
use Rattle.edk_build.proofs.file_out.write_pieces.Given as goal

abbrev pub invariant-loop-piece : goal.invariant-loop-piece
invariant-loop-piece g l =
    (front : List ℕ) × (l.content ≡ front ++ l.pieces)
    × ((path : List ℕ) → l.start ≡ Start path → l.more ≡ More path → SpelledFile (g.S.Sink.written l.fn.sink) (g.S.Sink.written l.sink) path front)
    × (g.S.Sink.faults l.sink ≡ g.S.Sink.faults l.fn.sink) × (front ≡ [] → l.pieces ≡ [])

abbrev pub decreases-loop-piece : goal.decreases-loop-piece
decreases-loop-piece g l = length l.pieces
