-- What the workers drew is put together.
use Rattle.std.proofs.Common.{ap}
use Rattle.drawn_waves.proofs.Whole.{one_came, both_came, none_below, both_taken}
use Rattle.drawn_waves.proofs.wave.+share_out.Goals as goal

pub returns-then-workers-lt2-clause-drawn : goal.returns-then-workers-lt2-clause-drawn
returns-then-workers-lt2-clause-drawn g t c =
    one_came (λ f i r. g.F.Fn.post f (i, tt) r) c.args.work.now c.args.seat.seat.me.0.items (λ v. v.items) c.take_pieces.result.results c.args.pieces _ _
    c.requires.none c.requires.pieces c.take_pieces.ensures.numbers c.take_pieces.ensures.results

pub returns-clause-drawn : goal.returns-clause-drawn
returns-clause-drawn g t c =
    both_came (λ f i r. g.F.Fn.post f (i, tt) r) c.args.work.now c.args.seat.seat.me.0.items (λ v. v.items) c.join-a.result.0.results c.join-a.result.1.results c.both.result.results _ _ _ _ _
    (ap (λ v. v.items) c.split-seat.ensures.kept) (ap (λ v. v.items) c.split-seat.ensures.given) (ap (λ v. v.numbers) c.both.ensures.view) c.join-a.ensures.first.2 c.join-a.ensures.second.2 c.both.ensures.results

pub returns-clause-wave : goal.returns-clause-wave
returns-clause-wave g t c =
    both_taken c.args.seat.seat.me.0 _ _ _ _ _ c.split-seat.ensures.kept c.split-seat.ensures.given c.join-a.ensures.first.1 c.join-a.ensures.second.1 c.both.ensures.view

pub take_pieces-requires-clause-below : goal.take_pieces-requires-clause-below
take_pieces-requires-clause-below g t c κs within = none_below c.args.pieces c.args.seat.seat.me.0.numbers c.requires.none

pub split-seat-requires-clause-below : goal.split-seat-requires-clause-below
split-seat-requires-clause-below g t c = none_below _ c.args.seat.seat.me.0.numbers c.requires.none
