use Rattle.std.proofs.Common.{arith, ◌∙◌, ◌+◌, sym, ap, subst, map, Bor}
use Rattle.std.specs.Global.{Vec}
use Rattle.number_chains.proofs.MarkLemmas.{AreMarkedBelow, marked_below, unmarked_below, all_marked}
use Rattle.number_chains.proofs.chains.Chains.marked_rows.Goals.{then-marks-number+in_ok-push_rows, else-marks-number}
use Rattle.number_chains.proofs.chains.Chains.marked_rows.Goals as goal

pub loop-number-preserved : goal.loop-number-preserved
loop-number-preserved g c = λ f chained.
    let at = c.loop-number.number in
    let rows = c.args.rows.now in
    let marks = c.args.marks.now in
    let found = map (λ (r : Bor g.row.T.Denot). r.now) c.loop-number.found.items in
    elim c.if-marks-number.branch [
      | then-marks-number+in_ok-push_rows w ↦ marked_below f at marks rows found (map (λ (r : Bor g.row.T.Denot). r.now) c.if-marks-number.found.items) w.if-marks-number.true
          (ap (λ (v : Vec (Bor g.row.T.Denot)). map (λ (r : Bor g.row.T.Denot). r.now) v.items) w.found-is ∙ w.in_ok-push_rows.ensures f chained)
          (c.loop-number.invariant f chained)
      | else-marks-number w ↦ subst (λ (v : Vec (Bor g.row.T.Denot)). AreMarkedBelow f (at + 1) marks rows (map (λ (r : Bor g.row.T.Denot). r.now) v.items)) (sym w.found-is)
          (unmarked_below f at marks rows found w.if-marks-number.false (c.loop-number.invariant f chained))
    ]

pub returns : goal.returns
returns g c = λ f chained. all_marked f c.loop-number.number c.args.marks.now c.args.rows.now (map (λ (r : Bor g.row.T.Denot). r.now) c.loop-number.found.items) (λ h. omega (arith, h, c.loop-number-test.false)) (c.loop-number.invariant f chained)
