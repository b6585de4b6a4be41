use Rattle.std.proofs.Common.{◌≡◌, map, drop}
use Rattle.build_base.specs.First.{all_ok, with_front}
use Rattle.dsc_lines.specs.Arches.{arch_value}
use Rattle.dsc_lines.proofs.arches.arches_of.Given as goal

abbrev pub invariant-loop-word : goal.invariant-loop-word
invariant-loop-word l = with_front l.arches (all_ok (map (arch_value l.at) (drop l.word-index l.words))) ≡ all_ok (map (arch_value l.at) l.words)
