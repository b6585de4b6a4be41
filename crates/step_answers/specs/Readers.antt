-- What the steps that were asked gave, by the answers of a stage; the rule is this project's own.
use Rattle.std.specs.Prelude.{List, ℕ, Option, Some, None, Result, Ok, Err, if◌then◌else◌, nat_eq}
use Rattle.build_base.specs.First.{and_then}
use Rattle.step_engine.specs.declared.talk.Pair.{Pair}
use Rattle.build_stages.specs.Writing.{given_part}
use Rattle.build_base.specs.declared.fault.Fault.{Fault}
use Rattle.doc_types.specs.declared.flash.FlashDoc.{FlashDoc}
use Rattle.doc_types.specs.declared.platform.PlatformDoc.{PlatformDoc}
use Rattle.build_stages.specs.Stages.{Stages, impossible_answer}
use Rattle.build_stages.specs.Gives.{Gives}
use Rattle.build_stages.specs.Known.{Table, advance_at}
use Rattle.build_stages.specs.declared.stop.Stop.{Stop}
use Rattle.step_pack.specs.Keys.{key_cmp}
use Rattle.step_answers.specs.Fits.{fits}
use Rattle.step_pack.specs.declared.key.Key.{Key}
use Rattle.step_pack.specs.declared.key.Key.TheVariants as key
use Rattle.step_pack.specs.declared.out.Out.{Out}
use Rattle.step_pack.specs.declared.out.Out.TheVariants as out
use Rattle.std.specs.Cmp.Lexicographic.{pointwise}
use Rattle.doc_types.specs.declared.choice.Choice.{Choice}
use Rattle.doc_types.specs.declared.choice.Module.{Module}
use Rattle.doc_types.specs.declared.module.InfDoc.{InfDoc}
use Rattle.doc_types.specs.declared.values.Values.{Values}

abbrev pub EdkStages : Type 0
EdkStages = Stages Key Out Out

-- a step's function answers what its stages give by what is known, unless memory was wanting
abbrev pub AdvancesTo : Table Key Out → EdkStages → Result Out (Stop Key) → Type 0
AdvancesTo known stages r = Gives (λ out. out) r (advance_at key_cmp fits known stages)

-- a result as what a step gives
abbrev pub given_as : {A : Type 0} → (A → Out) → Result A Fault → Result Out Fault
given_as variant (Ok x) = Ok (variant x)
given_as variant (Err fault) = Err fault

abbrev pub platform_of_out : Out → Result PlatformDoc Fault
platform_of_out (out.Platform document) = Ok document
platform_of_out _ = Err impossible_answer

-- the platform's description among answers
abbrev pub platform_in : List (Pair Key Out) → Result PlatformDoc Fault
platform_in given = and_then (given_part key_cmp given key.Platform) platform_of_out

abbrev pub flash_of_out : Out → Result FlashDoc Fault
flash_of_out (out.Flash document) = Ok document
flash_of_out _ = Err impossible_answer

-- the flash description among answers
abbrev pub flash_in : List (Pair Key Out) → Result FlashDoc Fault
flash_in given = and_then (given_part key_cmp given key.Flash) flash_of_out

abbrev pub choice_of_out : Out → Result Choice Fault
choice_of_out (out.Choice choice) = Ok choice
choice_of_out _ = Err impossible_answer

abbrev pub choice_in : List (Pair Key Out) → Module → Result Choice Fault
choice_in given m = and_then (given_part key_cmp given (key.Choice m)) choice_of_out

-- the description of a module has its path
abbrev pub inf_of_path : List ℕ → InfDoc → Result InfDoc Fault
inf_of_path path inf = if pointwise nat_eq inf.at.path path then Ok inf else Err impossible_answer

abbrev pub inf_of_out : List ℕ → Out → Result InfDoc Fault
inf_of_out path (out.Inf inf) = inf_of_path path inf
inf_of_out path _ = Err impossible_answer

unfoldable pub inf_in : List (Pair Key Out) → List ℕ → Result InfDoc Fault
inf_in given path = and_then (given_part key_cmp given (key.Inf path)) (inf_of_out path)

abbrev pub values_of_out : Out → Result Values Fault
values_of_out (out.Values values) = Ok values
values_of_out _ = Err impossible_answer

-- the values that the step of a key gave
abbrev pub values_in : List (Pair Key Out) → Key → Result Values Fault
values_in given k = and_then (given_part key_cmp given k) values_of_out

-- what was read from a text, or the fault of an answer that no world gives
abbrev pub or_impossible : {A : Type 0} → Option A → Result A Fault
or_impossible (Some x) = Ok x
or_impossible None = Err impossible_answer
