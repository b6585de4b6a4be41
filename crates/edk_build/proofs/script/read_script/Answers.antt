use Rattle.std.proofs.Common.{◌∙◌, ◌+◌, ◌-◌, ◌≤◌, sym, subst, length}
use Rattle.std.specs.Option.{IfSome}
use Rattle.meta_lexer.proofs.PieceLemmas.{pieces_end}
use Rattle.meta_lexer.specs.Lines.{piece_of, pieces_from}
use Rattle.edk_build.proofs.ScriptLemmas.{lines_more, lines_none, lines_end, line_counted, line_numbered}
use Rattle.edk_build.specs.Script.{script_of}
use Rattle.edk_build.proofs.script.read_script.Goals as goal

pub returns-in_default-clause-script : goal.returns-in_default-clause-script
returns-in_default-clause-script c =
    let at = c.loop-rest.invariant.0 in
    lines_none c.loop-rest.lines (pieces_from c.loop-rest.number at c.loop-rest.rest.now) (piece_of c.loop-rest.number at c.split_line.result.0.now)
    (pieces_from (c.loop-rest.number + 1) (at + (length c.loop-rest.rest.now - length c.split_line.result.1.now)) c.split_line.result.1.now) (script_of c.args.bytes.now)
    c.loop-rest.invariant.1 (c.split_line.ensures.pieces c.loop-rest.number at) (sym c.in_default.is ∙ c.in_ok-content.ensures.content at)

pub loop-rest-preserved : goal.loop-rest-preserved
loop-rest-preserved c =
    let at = c.loop-rest.invariant.0 in (
      at + (length c.loop-rest.rest.now - length c.split_line.result.1.now),
      lines_more c.loop-rest.lines c.push_content.new.lines (pieces_from c.loop-rest.number at c.loop-rest.rest.now) (piece_of c.loop-rest.number at c.split_line.result.0.now)
          (pieces_from (c.loop-rest.number + 1) (at + (length c.loop-rest.rest.now - length c.split_line.result.1.now)) c.split_line.result.1.now) c.in-Some.content (script_of c.args.bytes.now)
          c.loop-rest.invariant.1 (c.split_line.ensures.pieces c.loop-rest.number at) (sym c.in-Some.is ∙ c.in_ok-content.ensures.content at) c.in_ok-push_content.ensures,
      line_counted c.loop-rest.lines c.push_content.new.lines c.loop-rest.number c.in-Some.content c.loop-rest.invariant.2 c.in_ok-push_content.ensures,
      line_numbered c.loop-rest.number (subst (λ z. IfSome z (λ held. c.loop-rest.number ≤ 1000)) c.in-Some.is c.in_ok-content.ensures.few),
    )

pub returns-clause-script : goal.returns-clause-script
returns-clause-script c =
    lines_end c.loop-rest.lines (pieces_from c.loop-rest.number c.loop-rest.invariant.0 c.loop-rest.rest.now) (script_of c.args.bytes.now) c.loop-rest.invariant.1
    (pieces_end c.loop-rest.rest.now c.loop-rest.number c.loop-rest.invariant.0 (c.is_end.ensures.0 c.loop-rest-test.false))
