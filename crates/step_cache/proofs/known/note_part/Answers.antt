use Rattle.std.proofs.Common.{rules, subst}
use Rattle.step_engine.specs.Table.{IsPlaced}
use Rattle.step_pack.specs.declared.key.Key.{Key}
use Rattle.step_cache.specs.Known.{number_at}
use Rattle.step_cache.proofs.KnownLemmas.{noted_put}
use Rattle.step_cache.proofs.known.note_part.Goals as goal

pub returns-in_ok-note-in-Part : goal.returns-in_ok-note-in-Part
returns-in_ok-note-in-Part c =
    noted_put c.args.cache.now c.args.pair.now c.in-Part.part c.args.number c.args.known.now c.note.new.self c.requires (search rules)
    (subst (λ (k : Key). IsPlaced k c.args.number (number_at c.args.known.now) (number_at c.note.new.self)) c.in_ok-part-in-Part.ensures c.in_ok-note-in-Part.ensures)
