-- The slot of a number below the wave's length has the item of that number.
use Rattle.std.proofs.Common.{arith, ◌<◌, ℕ, length, sym, ap, ◌∷◌, ◌∙◌, Some}
use Rattle.atomic_table.specs.Table.{rest}
use Rattle.drawn_waves.proofs.Homes.{get_there, one_slot}
use Rattle.drawn_waves.proofs.steps.draw_item.Goals as goal

pub take_item-requires-clause-slot : goal.take_item-requires-clause-slot
take_item-requires-clause-slot g c = let n : ℕ = length c.args.seat.now.me.0.items in let r = c.requires.pieces in let f = c.if-number-pieces.false in let k : ℕ = c.draw-number.result in let low : k < n = omega arith in
    let there = get_there c.args.seat.now.me.0.items k low in let took = c.draw-number.ensures.drew.slot there.0 there.1 in
    (there.0, took ∙ (λ i. (k, Some there.0) ∷ sym (ap rest took) i))

pub returns-clause-item : goal.returns-clause-item
returns-clause-item g c = let n : ℕ = length c.args.seat.now.me.0.items in let r = c.requires.pieces in let f = c.if-number-pieces.false in let k : ℕ = c.draw-number.result in let low : k < n = omega arith in
    let there = get_there c.args.seat.now.me.0.items k low in let took = c.draw-number.ensures.drew.slot there.0 there.1 in
    one_slot k k (Some c.take_item.result) (Some there.0) _ _ (sym c.take_item.ensures.item ∙ took) ∙ sym there.1
