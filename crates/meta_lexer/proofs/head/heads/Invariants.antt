use Rattle.std.proofs.Common.{◌≡◌, map, take}
use Rattle.meta_lexer.specs.Fields.{bytes_at}
use Rattle.meta_lexer.specs.Heads.{head_of}
use Rattle.meta_lexer.proofs.head.heads.Given as goal

abbrev pub invariant-loop-span : goal.invariant-loop-span
invariant-loop-span l = l.heads ≡ map (λ span. head_of (bytes_at l.text span)) (take l.span-index l.span-items)
