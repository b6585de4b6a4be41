use Rattle.std.proofs.Common.{◌≡◌, ◌++◌, ◌+◌, ◌≤◌, ℕ, length}
use Rattle.std.specs.Option.{option_map}
use Rattle.meta_lexer.specs.Lines.{pieces_from}
use Rattle.edk_build.specs.Script.{lines_among, script_of}
use Rattle.edk_build.proofs.script.read_script.Given as goal

abbrev pub invariant-loop-rest : goal.invariant-loop-rest
invariant-loop-rest l = (at : ℕ) × (option_map (λ more. l.lines ++ more) (lines_among (pieces_from l.number at l.rest)) ≡ script_of l.bytes)
    × (length l.lines + 1 ≤ l.number) × (l.number ≤ 1001)

abbrev pub decreases-loop-rest : goal.decreases-loop-rest
decreases-loop-rest l = length l.rest
