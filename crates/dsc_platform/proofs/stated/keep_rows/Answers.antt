use Rattle.std.proofs.Common.{◌∙◌, [], ◌∷◌, ◌++◌, ap}
use Rattle.dsc_lines.specs.Standing.{parts_in}
use Rattle.dsc_platform.specs.Stating.{with_rows}
use Rattle.dsc_platform.proofs.StatedLemmas.{rows_join, parts_more}
use Rattle.dsc_platform.proofs.stated.keep_rows.Goals as goal

pub loop-row-preserved : goal.loop-row-preserved
loop-row-preserved c =
    let row = c.in-Some.row in
    record {
      stated =
          c.in_ok-keep_row.ensures.stated ∙ ap (λ s. with_rows s (row ∷ [])) c.loop-row.invariant.stated
          ∙ rows_join c.args.stated.now c.loop-row.yielded (row ∷ []);
      names = λ h. c.in_ok-keep_row.ensures.names (c.loop-row.invariant.names h);
      parts =
          c.in_ok-keep_row.ensures.parts ∙ ap (λ ps. ps ++ parts_in row) c.loop-row.invariant.parts
          ∙ parts_more c.args.parts.now.items c.loop-row.yielded row;
    }
