use Rattle.dsc_platform.proofs.RepeatLemmas.{arched_added}
use Rattle.dsc_platform.proofs.repeats.add_component.Goals as goal

pub returns-in-Ok : goal.returns-in-Ok
returns-in-Ok c = λ above named h.
    arched_added above c.args.component.now c.args.key _ c.push.new.self c.args.table.now c.take_arches-arches.new.table c.insert.new.self named
    c.take_arches-arches.ensures.arches c.in_ok-push.ensures.ok c.take_arches-arches.ensures.others c.in-Ok.ensures.updates.0 h
