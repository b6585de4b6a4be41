use Rattle.std.proofs.Common.{inl, inr, arith}
use Rattle.fv_compose.specs.Place.{IsStart, start_of}
use Rattle.fv_compose.proofs.PlaceLemmas.{start_is_least, start_is, known_alignment}
use Rattle.fv_compose.proofs.place.place_of.Goals as goal

pub returns-clause-least : goal.returns-clause-least
returns-clause-least c = rw c.start-file.ensures.value (start_is_least c.args.at c.args.align c.args.head c.requires.alignment c.requires.head)

pub returns-clause-room : goal.returns-clause-room
returns-clause-room c =
    let s : IsStart c.args.at c.args.align c.args.head (start_of c.args.at c.args.align c.args.head) = start_is c.args.at c.args.align c.args.head (known_alignment c.args.align c.requires.alignment) c.requires.head in
    elim s.pad [ inl e ↦ inl (omega arith) | inr h ↦ inr (omega arith) ]
