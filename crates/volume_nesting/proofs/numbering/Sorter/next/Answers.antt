use Rattle.std.proofs.Common.{refl}
use Rattle.volume_nesting.proofs.TurnLemmas.{next_least, next_none, taken_out}
use Rattle.volume_nesting.proofs.numbering.Sorter.next.Goals as goal

pub returns-in-Some-clause-some : goal.returns-in-Some-clause-some
returns-in-Some-clause-some c = λ nests order h. (
  next_least nests order c.args.self.now c.in-Some.volume h c.in-Some.ensures.member c.in-Some.ensures.least,
  taken_out nests order c.in-Some.volume c.args.self.now _ h c.in-Some.ensures.member refl refl c.in-Some.ensures.others,
)

pub returns-in-None-clause-none : goal.returns-in-None-clause-none
returns-in-None-clause-none c = λ nests order h. next_none nests order c.args.self.now h c.in-None.ensures.none
