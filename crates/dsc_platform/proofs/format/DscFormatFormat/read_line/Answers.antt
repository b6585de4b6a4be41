use Rattle.std.proofs.Common.{ap, subst}
use Rattle.build_base.specs.Answer.{Answers}
use Rattle.doc_reading.specs.Gathering.{unless_faulty}
use Rattle.doc_reading.specs.Grammar.{rows_of}
use Rattle.dsc_lines.specs.Lines.{line_faults, line_row}
use Rattle.dsc_lines.specs.Standing.{open_below}
use Rattle.dsc_platform.specs.Stating.{names_of}
use Rattle.dsc_platform.proofs.format.DscFormatFormat.read_line.Goals as goal

pub returns : goal.returns
returns c = λ above h.
    let line = c.args.line.now in
    let scope = c.args.scope.now in
    let open_here = open_below (rows_of above) in
    subst (λ ns. Answers c.line_row.result (unless_faulty (line_faults ns open_here line scope) (line_row open_here line scope))) (ap (λ s. names_of s.skus) h.stated)
    (subst (λ st. Answers c.line_row.result (unless_faulty (line_faults (names_of c.args.self.now.stated.skus) st line scope) (line_row st line scope))) h.standing
    (c.line_row.ensures _ h.names))
