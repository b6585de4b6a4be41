use Rattle.std.proofs.Common.{◌≡◌, map, length}
use Rattle.meta_lexer.specs.Lookup.{lookup}
use Rattle.meta_lexer.proofs.word_table.lookup.Given as goal

abbrev pub invariant-loop-table : goal.invariant-loop-table
invariant-loop-table g l = lookup (map (λ e. (e.0.now, e.1)) l.table) l.word ≡ lookup (map (λ e. (e.0.now, e.1)) l.initial.table) l.word

abbrev pub decreases-loop-table : goal.decreases-loop-table
decreases-loop-table g l = length l.table
