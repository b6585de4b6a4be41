use Rattle.std.proofs.Common.{sym, ◌∙◌, refl, arith}
use Rattle.std.proofs.lemmas.Grind.{common_steps}
use Rattle.std.proofs.lemmas.List.Elements.{All-nil, All-push}
use Rattle.meta_lexer.specs.Fields.{IsWithin, spans, pieces_outside, nothing_open, open_view}
use Rattle.meta_lexer.proofs.FieldLemmas.{step_mark, step_other, last_field, at_start}
use Rattle.meta_lexer.proofs.field.split_unquoted.Goals as goal
use Rattle.meta_lexer.proofs.field.split_unquoted.Goals.{then-separates+in_ok-push, else-separates}

pub loop-i-init : goal.loop-i-init
loop-i-init c = record {
  state = refl;
  few = omega arith;
  started = omega arith;
  within = rw c.new-found.ensures.items (All-nil _);
  so_far = rw c.new-found.ensures.items (at_start c.args.nests c.args.mark c.args.text.now);
}

pub loop-i-preserved : goal.loop-i-preserved
loop-i-preserved c = record {
  state = grind (arith, common_steps);
  few = omega arith;
  started = elim c.if-separates.branch [ then-separates+in_ok-push w ↦ omega arith | else-separates w ↦ omega arith ];
  within =
      elim c.if-separates.branch [
        | then-separates+in_ok-push w ↦
            rw (w.found-is, w.in_ok-push.ensures) (All-push (IsWithin c.args.text.now) c.loop-i.found.items _ c.loop-i.invariant.within (record { order = c.loop-i.invariant.started; inside = omega arith }))
        | else-separates w ↦ rw w.found-is c.loop-i.invariant.within
      ];
  so_far =
      elim c.if-separates.branch [
        | then-separates+in_ok-push w ↦
            rw (w.found-is, w.start-is, w.in_ok-push.ensures) (step_mark c.args.text.now c.args.nests c.args.mark c.loop-i.start c.loop-i.i (open_view c.loop-i.open) (open_view c.after-open.result) c.loop-i.found.items (spans 0 (pieces_outside c.args.nests c.args.mark nothing_open c.args.text.now)) c.loop-i-test.true (sym c.separates.ensures ∙ w.if-separates.true) c.after-open.ensures.view c.loop-i.invariant.so_far)
        | else-separates w ↦
            rw (w.found-is, w.start-is) (step_other c.args.text.now c.args.nests c.args.mark c.loop-i.start c.loop-i.i (open_view c.loop-i.open) (open_view c.after-open.result) c.loop-i.found.items (spans 0 (pieces_outside c.args.nests c.args.mark nothing_open c.args.text.now)) c.loop-i-test.true (sym c.separates.ensures ∙ w.if-separates.false) c.after-open.ensures.view c.loop-i.invariant.so_far)
      ];
}

pub returns : goal.returns
returns c = grind (arith, common_steps, last_field c.args.text.now c.args.nests c.args.mark c.loop-i.start c.loop-i.i (open_view c.loop-i.open) (omega arith))
