-- A join keeps the rule: the other seat's view goes to a seat that holds no slot, which the first seat takes in.
use Rattle.std.proofs.Common.{rules}
use Rattle.drawn_waves.proofs.Kept.{lifts, gathers}
use Rattle.drawn_waves.proofs.steps.join_seats.Goals as goal

pub split_seat-lifted-requires : goal.split_seat-lifted-requires
split_seat-lifted-requires g c = (search rules, search rules, lifts _ _ _ _)

pub join_seat-requires : goal.join_seat-requires
join_seat-requires g c = (search rules, search rules, search rules, search rules, gathers _ _ _ _ _ _ (search rules))
