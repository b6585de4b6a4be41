use Rattle.std.proofs.Common.{◌≡◌, drop}
use Rattle.meta_lexer.specs.Faults.{first_fault}
use Rattle.step_answers.specs.Settings.{arch_unsupported}
use Rattle.step_answers.proofs.settings.arches_supported.Given as goal

abbrev pub invariant-loop-text : goal.invariant-loop-text
invariant-loop-text l = first_fault (arch_unsupported l.platform) (drop l.text-index l.texts) ≡ first_fault (arch_unsupported l.platform) l.texts
