use Rattle.std.proofs.Common.{◌≡◌, take, drop}
use Rattle.doc_reading.specs.Reading.{lines_fault}
use Rattle.dsc_platform.specs.Repeats.{Arched, repeat_fault, repeats_fault}
use Rattle.dsc_platform.proofs.repeats.check_repeats.Given as goal

abbrev pub invariant-loop-component : goal.invariant-loop-component
invariant-loop-component l = record {
  arched : Arched (take l.component-index l.components) l.table;
  faults : lines_fault (λ above c last. repeat_fault above c) (take l.component-index l.components) (drop l.component-index l.components) ≡ repeats_fault l.components;
}
