use Rattle.std.proofs.Common.{◌≡◌, ◌==◌, false, not, fold, drop, if◌then◌else◌}
use Rattle.meta_lexer.proofs.field.ends_quoted.Given as goal

abbrev pub invariant-loop-b : goal.invariant-loop-b
invariant-loop-b l = fold (λ quoted b. if b == 34 then not quoted else quoted) l.quoted (drop l.b-index l.text) ≡ fold (λ quoted b. if b == 34 then not quoted else quoted) false l.text
