-- What is known of a module's libraries, round by round, in this project's own form of steps.
use Rattle.std.specs.Prelude.{ℕ, List, [], ◌∷◌, ◌++◌, Result, Ok}
use Rattle.build_base.specs.declared.fault.Fault.{Fault}
use Rattle.build_base.specs.First.{and_then}
use Rattle.step_engine.specs.declared.talk.Pair.{Pair}
use Rattle.doc_types.specs.declared.module.InfDoc.{InfDoc}
use Rattle.step_pack.specs.declared.key.Key.{Key}
use Rattle.step_pack.specs.declared.out.Out.{Out}
use Rattle.step_answers.specs.Readers.{inf_in}
use Rattle.library_steps.specs.Parts.{infs_from}

abbrev pub alone : InfDoc → Result (List InfDoc) Fault
alone inf = Ok (inf ∷ [])

-- at first the description of the module itself
abbrev pub own_inf : List (Pair Key Out) → List ℕ → Result (List InfDoc) Fault
own_inf given path = and_then (inf_in given path) alone

abbrev pub behind : List InfDoc → List InfDoc → Result (List InfDoc) Fault
behind infs more = Ok (infs ++ more)

-- and those of a round behind the others
abbrev pub with_more : List InfDoc → List (Pair Key Out) → List (List ℕ)
    → Result (List InfDoc) Fault
with_more infs given paths = and_then (infs_from given paths) (behind infs)
