-- The entry is made.
use Rattle.step_engine.specs.declared.places.Place.TheVariants.{Running}
use Rattle.step_engine.proofs.ForwardLemmas.{goes_made, enters_made}
use Rattle.step_engine.proofs.turns.take_turn.Goals as goal

pub returns-in_ok-make_new-in-Done-clause-goes : goal.returns-in_ok-make_new-in-Done-clause-goes
returns-in_ok-make_new-in-Done-clause-goes g c = goes_made Running (record { key = c.args.turned.key; talk = c.in_ok-talk-in-Done.talk; result = c.in-Done.result }) _ _ _ _ _ c.in_ok-make_new-in-Done.ensures.made c.in_ok-make_new-in-Done.ensures.done

pub returns-in_ok-make_new-in-Done-clause-entered : goal.returns-in_ok-make_new-in-Done-clause-entered
returns-in_ok-make_new-in-Done-clause-entered g c = enters_made Running (record { key = c.args.turned.key; talk = c.in_ok-talk-in-Done.talk; result = c.in-Done.result }) _ _ _ _ c.in_ok-make_new-in-Done.ensures.made
