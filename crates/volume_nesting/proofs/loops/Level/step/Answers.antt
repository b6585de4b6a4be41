use Rattle.std.proofs.Common.{◌∙◌, subst}
use Rattle.std.specs.List.{flat_map}
use Rattle.volume_nesting.specs.Looping.{Saw}
use Rattle.volume_nesting.specs.Numbering.{nest_of}
use Rattle.volume_nesting.proofs.LoopLemmas.{reached_next}
use Rattle.volume_nesting.proofs.loops.Level.step.Goals as goal

pub returns : goal.returns
returns c = λ p k h.
    reached_next c.args.nests.now p k c.args.self.now c.take_edge-edge.new.self c.see_nests.new.self h c.take_edge-edge.ensures.seen c.take_edge-edge.ensures.none
    (subst (λ e. Saw (flat_map (nest_of c.args.nests.now) e) c.take_edge-edge.new.self c.see_nests.new.self) (c.items.ensures ∙ c.take_edge-edge.ensures.edge) c.in_ok-see_nests.ensures)
