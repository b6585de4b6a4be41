use Rattle.std.proofs.Common.{◌≡◌, drop}
use Rattle.meta_lexer.specs.Faults.{first_fault}
use Rattle.flash_document.specs.Whole.{part_unstated}
use Rattle.flash_document.proofs.check.check_stated.Given as goal

abbrev pub invariant-loop-part : goal.invariant-loop-part
invariant-loop-part l = first_fault part_unstated (drop l.part-index l.parts) ≡ first_fault part_unstated l.parts
