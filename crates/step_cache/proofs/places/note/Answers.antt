use Rattle.std.proofs.Common.{rules}
use Rattle.step_cache.proofs.PlaceLemmas.{placed_push}
use Rattle.step_cache.proofs.places.note.Goals as goal

-- src/places.rt:104:1
pub returns-in-Ok : goal.returns-in-Ok
returns-in-Ok c = λ text texts same none at placed.
    placed_push texts text c.push.new.self c.args.number c.args.table.now c.take_numbers-numbers.new.table c.insert.new.self at (search rules) (search rules) (search rules) placed
