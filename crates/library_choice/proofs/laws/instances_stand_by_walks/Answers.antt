use Rattle.library_choice.specs.Closure.{next}
use Rattle.library_choice.proofs.WalkLemmas.{walks-ends, walks-ascend, walks-whole}
use Rattle.library_choice.proofs.laws.instances_stand_by_walks.Goals as goal

pub returns : goal.returns
returns c = λ s starts n.
    record { ends_of = walks-ends (next s) starts n; ascend = walks-ascend (next s) starts n; whole = λ w i l. walks-whole (next s) starts w i n l }
