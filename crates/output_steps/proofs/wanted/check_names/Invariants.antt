use Rattle.std.proofs.Common.{◌≡◌, length}
use Rattle.meta_lexer.specs.Faults.{first_fault}
use Rattle.output_steps.specs.Wanted.{image_unknown}
use Rattle.output_steps.proofs.wanted.check_names.Given as goal

abbrev pub invariant-loop-left : goal.invariant-loop-left
invariant-loop-left l = first_fault (image_unknown l.flash l.there) l.left ≡ first_fault (image_unknown l.flash l.there) l.names

abbrev pub decreases-loop-left : goal.decreases-loop-left
decreases-loop-left l = length l.left
