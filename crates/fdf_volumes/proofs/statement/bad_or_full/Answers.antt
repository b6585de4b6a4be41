use Rattle.std.proofs.Common.{Some, [], ◌∷◌}
use Rattle.doc_reading.specs.Least.{least_of}
use Rattle.fdf_words.specs.Numbers.{bad_line}
use Rattle.fdf_volumes.specs.Statements.{full_fault}
use Rattle.fdf_volumes.proofs.statement.bad_or_full.Goals as goal

pub returns : goal.returns
returns c =
    let line = c.args.line.now in
    let full = full_fault line c.args.full in
    c.with_check.ensures (Some (bad_line c.args.code line)) (least_of (full ∷ [])) c.bad_line.ensures (c.least_of_one.ensures full c.check_full.ensures)
