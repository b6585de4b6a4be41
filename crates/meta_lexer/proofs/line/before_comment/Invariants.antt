use Rattle.std.proofs.Common.{◌≡◌, ◌+◌, false, drop}
use Rattle.meta_lexer.specs.Lines.{comment_from}
use Rattle.meta_lexer.proofs.line.before_comment.Given as goal

abbrev pub invariant-loop-i : goal.invariant-loop-i
invariant-loop-i l = l.i + comment_from l.quoted (drop l.i l.text) ≡ comment_from false l.text
