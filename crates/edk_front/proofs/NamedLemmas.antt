-- The fault of a build of some words has a name.
use Rattle.std.proofs.Common.{◌≡◌, ℕ, Bool, true, false, List, Option, Some, None, Result, Ok, Err, refl, ap, sym, subst}
use Rattle.build_base.specs.Outside.{Files}
use Rattle.build_base.specs.World.{World}
use Rattle.build_base.specs.declared.fault.Fault.{Fault}
use Rattle.build_stages.specs.Stages.{outcome_of}
use Rattle.step_answers.specs.Readers.{given_as}
use Rattle.named_faults.specs.Named.{FailsByName}
use Rattle.step_engine.specs.declared.talk.Outcome.{Outcome}
use Rattle.step_pack.specs.declared.key.Key.{Key}
use Rattle.step_pack.specs.declared.key.Key.TheVariants as key
use Rattle.step_pack.specs.declared.out.Out.{Out}
use Rattle.step_pack.specs.declared.out.Out.TheVariants as out
use Rattle.step_pack.specs.declared.out.Output.{Output}
use Rattle.build_laws.specs.BuildValues.{all_value}
use Rattle.build_rules.specs.Rules.{value_in}
use Rattle.build_faults.specs.NamedFaults.{IsSpoken}
use Rattle.build_faults.proofs.BuildFaults.{all_fails_by_name}
use Rattle.build_laws.proofs.BuildValues.{all_is}
use Rattle.build_words.specs.Jobs.{words_job}
use Rattle.job_fields.specs.declared.job.Job.{Job}
use Rattle.std.specs.Prelude.{◌==◌, ◌||◌, length}
use Rattle.std.specs.Option.{is_some}
use Rattle.job_fields.specs.Fields.{TARGET, TAG, or_empty, field_of, job_fields}
use Rattle.job_fields.specs.HasWords.{HasWords, IsNameIfGiven}
use Rattle.job_fields.specs.Values.{is_name}
use Rattle.job_fields.proofs.ReadLemmas.{arches_there, sets_there, images_read}
use Rattle.module_faults.specs.Folders.{IsNameOrNone}
use Rattle.build_words.proofs.WordLemmas.{words_have}
use Rattle.edk_build.proofs.WordLemmas.{command_job, is_job_of}
use Rattle.edk_build.specs.Commands.{IfBuild, command_of}
use Rattle.edk_build.specs.Outcome.{files_by, outcome}
use Rattle.edk_build.specs.Run.{world_of}
use Rattle.edk_build.specs.declared.command.Command.{Command}
use Rattle.edk_build.specs.declared.command.Command.TheVariants.{Build, Replay, Selftest, Volinfo}

given_fails : (value : Key → Outcome Out) (all : Result (List Output) Fault) (top : Outcome Out) → FailsByName all → top ≡ outcome_of (given_as out.All all) → FailsByName (files_by value top)
given_fails value (Ok outputs) top n e = subst (λ o. FailsByName (files_by value o)) (sym e) tt
given_fails value (Err fault) top n e = subst (λ o. FailsByName (files_by value o)) (sym e) n

name_or_none : (name : Option (List ℕ)) → IsNameIfGiven name → IsNameOrNone (or_empty name)
name_or_none None h = refl
name_or_none (Some text) h = by (length text == 0)
  where
    by : (b : Bool) → (b || is_name text) ≡ true
    by true = refl
    by false = h

target_or_none : (job : Job) → HasWords job → IsNameOrNone (field_of job TARGET)
unfolding job_fields
target_or_none job h = name_or_none job.names.target h.target

tag_or_none : (job : Job) → HasWords job → IsNameOrNone (field_of job TAG)
unfolding job_fields
tag_or_none job h = name_or_none job.names.tag h.tag

-- the fields of a job are those of its words
spoken : (words : List (List ℕ)) (job : Job) (files : Files) → words_job words ≡ Some job → IsSpoken (world_of files job)
spoken words job files e =
    let has : HasWords job = words_have words job e in
    record {
      arches = arches_there job has;
      target = target_or_none job has;
      tag = tag_or_none job has;
      sets = λ at. sets_there job at has;
      images = ap is_some (images_read job has);
    }

job_fails : (words : List (List ℕ)) (job : Job) (files : Files) → words_job words ≡ Some job → FailsByName (outcome (world_of files job))
job_fails words job files e =
    let w : World = world_of files job in
    let world = is_job_of words job e in
    given_fails (value_in w) (all_value w) (value_in w key.All) (all_fails_by_name w world (spoken words job files e)) (all_is w world)

-- of the words of a command line
pub build_fails_by_name : (words : List (List ℕ)) → IfBuild (command_of words) (λ job. (files : Files) → FailsByName (outcome (world_of files job)))
build_fails_by_name words = by (command_of words) refl
  where
    by : (command : Option Command) → command_of words ≡ command → IfBuild command (λ job. (files : Files) → FailsByName (outcome (world_of files job)))
    by None e = tt
    by (Some (Build job)) e = λ files. job_fails words job files (command_job words job e)
    by (Some (Replay at)) e = tt
    by (Some (Selftest n)) e = tt
    by (Some (Volinfo at)) e = tt
