use Rattle.std.proofs.Common.{◌≡◌, drop}
use Rattle.meta_lexer.specs.Faults.{first_fault}
use Rattle.file_steps.specs.Plans.{refused_section}
use Rattle.file_steps.proofs.plans.none_refused.Given as goal

abbrev pub invariant-loop-section : goal.invariant-loop-section
invariant-loop-section l = first_fault refused_section (drop l.section-index l.sections) ≡ first_fault refused_section l.sections
