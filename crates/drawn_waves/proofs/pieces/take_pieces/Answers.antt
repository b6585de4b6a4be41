-- One more turn, and the last draw.
use Rattle.std.proofs.Common.{rules, arith, sym, ap, ◌∙◌, slice_get}
use Rattle.drawn_waves.proofs.Turns.{going_start, nearer, goes_on, more, ends, ends_whole, rises, stays_near, all_at}
use Rattle.drawn_waves.proofs.pieces.take_pieces.Goals as goal

pub work_on-requires : goal.work_on-requires
work_on-requires g c = let was = c.loop-item.invariant.1 in let there = sym c.draw_item-number.ensures.item ∙ c.in-Some.is in
    all_at (λ item. g.F.Fn.pre c.args.work.now (item, tt)) _ _ _ c.requires.callable (ap (λ xs. slice_get xs c.draw_item-number.result.0) (sym was.items) ∙ there)

pub overflow_add-next : goal.overflow_add-next
overflow_add-next g c = let was = c.loop-item.invariant.1 in let there = sym c.draw_item-number.ensures.item ∙ c.in-Some.is in
    let near = (nearer _ _ _ _ _ _ _ _ was _ c.requires.pieces there c.draw_item-number.ensures.greater).0 in let room = c.ranges.pieces.fits in record { fits = omega arith }

pub loop-item-smaller : goal.loop-item-smaller
loop-item-smaller g c = let was = c.loop-item.invariant.1 in let there = sym c.draw_item-number.ensures.item ∙ c.in-Some.is in
    let near = nearer _ _ _ _ _ _ _ _ was _ c.requires.pieces there c.draw_item-number.ensures.greater in let low = near.0 in let past = near.1 in omega arith

pub loop-item-preserved : goal.loop-item-preserved
loop-item-preserved g c = let was = c.loop-item.invariant.1 in let there = sym c.draw_item-number.ensures.item ∙ c.in-Some.is in
    (search rules, goes_on _ _ _ _ _ _ _ _ was _ _ _ c.draw_item-number.ensures.view c.requires.pieces there (search rules) c.draw_item-number.ensures.greater c.draw_item-number.ensures.next)

pub returns-in-None-clause-numbers : goal.returns-in-None-clause-numbers
returns-in-None-clause-numbers g c = let was = c.loop-item.invariant.1 in let same = c.hand_back.ensures in
    rw same.1 (ends _ _ _ _ _ _ _ _ was c.hand_back.result.seat.seat.me.0 (ap (λ s. s.me.0) same.0 ∙ c.draw_item-number.ensures.view) c.requires.pieces (sym c.draw_item-number.ensures.item ∙ c.in-None.is))

pub returns-in-None-clause-rising : goal.returns-in-None-clause-rising
returns-in-None-clause-rising g c = let was = c.loop-item.invariant.1 in let same = c.hand_back.ensures in
    rises _ _ _ _ _ _ _ _ was c.hand_back.result.seat.seat.me.0 (ap (λ s. s.me.0) same.0 ∙ c.draw_item-number.ensures.view) c.draw_item-number.ensures.greater

pub returns-in-None-clause-near : goal.returns-in-None-clause-near
returns-in-None-clause-near g c = let was = c.loop-item.invariant.1 in let same = c.hand_back.ensures in
    stays_near _ _ _ _ _ _ _ _ was c.hand_back.result.seat.seat.me.0 (ap (λ s. s.me.0) same.0 ∙ c.draw_item-number.ensures.view) c.requires.pieces c.draw_item-number.ensures.near

pub returns-in-None-clause-whole : goal.returns-in-None-clause-whole
returns-in-None-clause-whole g c = let was = c.loop-item.invariant.1 in let same = c.hand_back.ensures in
    λ all none. rw same.1 (ends_whole _ _ _ _ _ _ _ _ was c.requires.pieces c.draw_item-number.ensures.next (sym c.draw_item-number.ensures.item ∙ c.in-None.is) all none)

pub returns-then-is_err-clause-rising : goal.returns-then-is_err-clause-rising
returns-then-is_err-clause-rising g c = let was = c.loop-item.invariant.1 in let same = c.hand_back-then-is_err.ensures in
    rises _ _ _ _ _ _ _ _ was c.hand_back-then-is_err.result.seat.seat.me.0 (ap (λ s. s.me.0) same.0 ∙ c.draw_item-number.ensures.view) c.draw_item-number.ensures.greater

pub returns-then-is_err-clause-near : goal.returns-then-is_err-clause-near
returns-then-is_err-clause-near g c = let was = c.loop-item.invariant.1 in let same = c.hand_back-then-is_err.ensures in
    stays_near _ _ _ _ _ _ _ _ was c.hand_back-then-is_err.result.seat.seat.me.0 (ap (λ s. s.me.0) same.0 ∙ c.draw_item-number.ensures.view) c.requires.pieces c.draw_item-number.ensures.near

pub loop-item-init : goal.loop-item-init
loop-item-init g c = (search rules, going_start _ _ _ _ _ (search rules) c.requires.below)

pub returns-in-None-clause-wave : goal.returns-in-None-clause-wave
returns-in-None-clause-wave g c = let was = c.loop-item.invariant.1 in let same = c.hand_back.ensures in
    more _ _ _ _ _ _ _ _ was c.hand_back.result.seat.seat.me.0 (ap (λ s. s.me.0) same.0 ∙ c.draw_item-number.ensures.view)

pub returns-then-is_err-clause-wave : goal.returns-then-is_err-clause-wave
returns-then-is_err-clause-wave g c = let was = c.loop-item.invariant.1 in let same = c.hand_back-then-is_err.ensures in
    more _ _ _ _ _ _ _ _ was c.hand_back-then-is_err.result.seat.seat.me.0 (ap (λ s. s.me.0) same.0 ∙ c.draw_item-number.ensures.view)

pub returns-in-None-clause-results : goal.returns-in-None-clause-results
returns-in-None-clause-results g c = let was = c.loop-item.invariant.1 in let same = c.hand_back.ensures in rw same.1 was.results_are
