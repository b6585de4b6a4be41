use Rattle.std.proofs.Common.{◌≡◌, map, take}
use Rattle.meta_lexer.specs.Heads.{part_at}
use Rattle.meta_lexer.proofs.head.make_head.Given as goal

abbrev pub invariant-loop-span : goal.invariant-loop-span
invariant-loop-span l = l.parts ≡ map (part_at l.text) (take l.span-index l.span-items)
