-- The descriptions of some paths, where a step's talk has them all.
use Rattle.std.specs.Prelude.{◌≡◌, ℕ, Bool, true, false, nat_eq, if◌then◌else◌, List, [], ◌∷◌, ◌++◌, Option, Some, None}
use Rattle.std.specs.Option.{option_map}
use Rattle.std.specs.Cmp.Lexicographic.{pointwise}
use Rattle.step_engine.specs.declared.talk.Answer.{Answer}
use Rattle.step_engine.specs.declared.talk.Answer.TheVariants as answer
use Rattle.step_engine.specs.declared.talk.Ask.TheVariants as ask
use Rattle.step_engine.specs.declared.talk.Outcome.TheVariants.{Good}
use Rattle.build_stages.specs.Stages.{Known, cons_both}
use Rattle.doc_types.specs.declared.module.InfDoc.{InfDoc}
use Rattle.step_pack.specs.declared.key.Key.{Key}
use Rattle.step_pack.specs.declared.key.Key.TheVariants as key
use Rattle.step_pack.specs.declared.out.Out.{Out}
use Rattle.step_pack.specs.declared.out.Out.TheVariants as out

-- the description that a result is, where it is that of the path
abbrev pub held_doc : List ℕ → Out → Option InfDoc
held_doc path (out.Inf inf) = if pointwise nat_eq inf.at.path path then Some inf else None
held_doc path _ = None

abbrev pub held_answer : List ℕ → Answer Out → Option InfDoc
held_answer path (answer.Part (Good given)) = held_doc path given
held_answer path _ = None

abbrev pub held_known : List ℕ → Option (Answer Out) → Option InfDoc
held_known path None = None
held_known path (Some answer) = held_answer path answer

abbrev pub held_inf : Known Key Out → List ℕ → Option InfDoc
held_inf known path = held_known path (known (ask.Part (key.Inf path)))

-- all of them, where there are all
abbrev pub held_infs : Known Key Out → List (List ℕ) → Option (List InfDoc)
held_infs known [] = Some []
held_infs known (path ∷ paths) = cons_both (held_inf known path) (held_infs known paths)

-- it is added, or there is none
abbrev pub IsPushed : Bool → Option InfDoc → List InfDoc → List InfDoc → Type 0
IsPushed true held old new = option_map (λ (inf : InfDoc). old ++ inf ∷ []) held ≡ Some new
IsPushed false held old new = held ≡ None
