-- A part is taken off.
use Rattle.std.proofs.Common.{◌≡◌, true, false, refl, sym, ◌∙◌, inr}
use Rattle.step_engine.specs.Table.{place_at}
use Rattle.step_engine.proofs.WantedLemmas.{misses, misses_among, misses_rest, misses_none}
use Rattle.step_engine.proofs.LookLemmas.{no_items, not_above}
use Rattle.step_engine.proofs.wanted.missing.Goals as goal

pub loop-part-init : goal.loop-part-init
loop-part-init g c = record { among = λ p h. h; rest = λ p h. inr h }

pub returns-then-not-is_done : goal.returns-then-not-is_done
returns-then-not-is_done g c =
    let i = c.loop-part.invariant in
    misses (place_at g.K.Ord.cmp c.args.places.now) _ c.loop-part.parts.items c.pop.new.self.items c.in-Some.part c.in-Some.ensures.items i.among i.rest (c.if-not-is_done.ensures.no refl)

pub loop-part-preserved : goal.loop-part-preserved
loop-part-preserved g c =
    let i = c.loop-part.invariant in
    record {
      among = misses_among (place_at g.K.Ord.cmp c.args.places.now) _ c.loop-part.parts.items c.pop.new.self.items c.in-Some.part c.in-Some.ensures.items i.among i.rest;
      rest = misses_rest (place_at g.K.Ord.cmp c.args.places.now) _ c.loop-part.parts.items c.pop.new.self.items c.in-Some.part c.in-Some.ensures.items i.among i.rest (c.if-not-is_done.ensures.yes refl);
    }

pub returns : goal.returns
returns g c = misses_none (place_at g.K.Ord.cmp c.args.places.now) _ c.loop-part.parts.items (no_items _ (sym c.loop-part.parts.ok.0 ∙ not_above _ (λ h. (let f : false ≡ true = c.in_default.ensures.variant.1 h in absurd cc)))) c.loop-part.invariant.rest
