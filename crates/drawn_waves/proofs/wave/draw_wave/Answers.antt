-- The pieces of all workers have each number once, and stand in the order of the items.
use Rattle.std.proofs.Common.{rules, arith, ◌≡◌, sym, ◌∙◌, subst, length, All}
use Rattle.std.specs.Prelude.{IsSome}
use Rattle.std.proofs.lemmas.Grind.{common_steps}
use Rattle.std.proofs.lemmas.Result.{IfOk-at_ok}
use Rattle.drawn_waves.specs.Pieces.{HasDrawn}
use Rattle.drawn_waves.proofs.Placing.{all_placed, pieces_for, pieces_below, all_answered}
use Rattle.drawn_waves.proofs.wave.draw_wave.Goals as goal

pub lay-requires : goal.lay-requires
lay-requires g c =
    let drawn = IfOk-at_ok (λ v. HasDrawn (λ f i r. g.F.Fn.post f (i, tt) r) c.args.work.now c.in_ok-table.field-0.seat.seat.me.0.items c.share_out-taken.result.seat.seat.me.0.numbers v.items)
    (sym c.all_drawn.ensures.same ∙ c.in_ok-results.was) c.share_out-taken.ensures.drawn in
    let same : c.in_ok-table.field-0.seat.seat.me.0.items ≡ c.args.items.items = search rules in
    let whole : c.len-count.result ≡ length c.args.items.items = first_of (search rules, grind (arith, common_steps)) in
    record {
      below = pieces_below (λ f i r. g.F.Fn.post f (i, tt) r) c.args.work.now c.args.items.items c.len-count.result c.in_ok-results.results.items whole
          (pieces_for (λ f i r. g.F.Fn.post f (i, tt) r) c.args.work.now c.args.items.items _ _ same drawn.1);
    }

pub lift-requires : goal.lift-requires
lift-requires g c = record { full = subst (All IsSome) (sym c.in_ok-lay.ensures) (all_placed c.len-count.result c.in_ok-results.results.items c.in_ok-results.ensures.all) }

pub returns : goal.returns
returns g c =
    let drawn = IfOk-at_ok (λ v. HasDrawn (λ f i r. g.F.Fn.post f (i, tt) r) c.args.work.now c.in_ok-table.field-0.seat.seat.me.0.items c.share_out-taken.result.seat.seat.me.0.numbers v.items)
    (sym c.all_drawn.ensures.same ∙ c.in_ok-results.was) c.share_out-taken.ensures.drawn in
    let same : c.in_ok-table.field-0.seat.seat.me.0.items ≡ c.args.items.items = search rules in
    let whole : c.len-count.result ≡ length c.args.items.items = first_of (search rules, grind (arith, common_steps)) in
    all_answered (λ f i r. g.F.Fn.post f (i, tt) r) c.args.work.now c.args.items.items (λ v. v.items) c.lift.result c.len-count.result c.in_ok-results.results.items _ whole
    (pieces_for (λ f i r. g.F.Fn.post f (i, tt) r) c.args.work.now c.args.items.items _ _ same drawn.1) c.in_ok-lay.ensures c.lift.ensures
