-- The fields of the job of some words are those of a job.
use Rattle.std.proofs.Common.{◌≡◌, false, true, ap, ℕ, List, [], ◌∷◌, Option, Some, None, Bool, cond}
use Rattle.std.specs.Prelude.{codes}
use Rattle.std.specs.Option.{option_map}
use Rattle.build_base.specs.Path.{path_field}
use Rattle.macro_expressions.specs.Macros.{same_text}
use Rattle.job_fields.specs.Readings.{is_job}
use Rattle.job_fields.specs.Fields.{job_fields}
use Rattle.build_words.specs.Jobs.{words_job}
use Rattle.job_fields.specs.declared.job.Job.{Job}
use Rattle.job_fields.proofs.ReadLemmas.{job_read}
use Rattle.build_words.proofs.WordLemmas.{words_have}
use Rattle.selftest_tree.specs.Count.{count_of}
use Rattle.edk_build.specs.Commands.{build_from, replay_from, selftest_from, volinfo_from, command_of}
use Rattle.edk_build.specs.declared.command.Command.{Command}
use Rattle.edk_build.specs.declared.command.Command.TheVariants as command

pub is_job_of : (words : List (List ℕ)) (job : Job) → words_job words ≡ Some job → is_job (job_fields job) ≡ true
is_job_of words job e = job_read job (words_have words job e)

build_given : (found : Option Job) (job : Job) → option_map command.Build found ≡ Some (command.Build job) → found ≡ Some job
build_given None job e = absurd cc
build_given (Some other) job e = let same : other ≡ job = cc in ap Some same

no_replay : (path : Option (List ℕ)) (job : Job) → replay_from path ≡ Some (command.Build job) → ⊥
no_replay None job h = absurd cc
no_replay (Some path) job h = absurd cc

no_selftest : (count : Option ℕ) (job : Job) → selftest_from count ≡ Some (command.Build job) → ⊥
no_selftest None job h = absurd cc
no_selftest (Some n) job h = absurd cc

no_volinfo : (path : Option (List ℕ)) (job : Job) → volinfo_from path ≡ Some (command.Build job) → ⊥
no_volinfo None job h = absurd cc
no_volinfo (Some path) job h = absurd cc

-- words that are no build's go before others
others : (b : Bool) (one rest : Option Command) (job : Job) (found : Option Job) → (one ≡ Some (command.Build job) → ⊥) → (rest ≡ Some (command.Build job) → found ≡ Some job)
    → cond b one rest ≡ Some (command.Build job) → found ≡ Some job
others true one rest job found none build h = absurd (none h)
others false one rest job found none build h = build h

two_words : (name word : List ℕ) (job : Job)
    → cond (same_text name (codes "selftest")) (selftest_from (count_of word)) (cond (same_text name (codes "volinfo")) (volinfo_from (path_field word)) (build_from (name ∷ word ∷ []))) ≡ Some (command.Build job)
    → words_job (name ∷ word ∷ []) ≡ Some job
two_words name word job =
    others (same_text name (codes "selftest")) (selftest_from (count_of word)) (cond (same_text name (codes "volinfo")) (volinfo_from (path_field word)) (build_from (name ∷ word ∷ []))) job
    (words_job (name ∷ word ∷ [])) (no_selftest (count_of word) job)
    (others (same_text name (codes "volinfo")) (volinfo_from (path_field word)) (build_from (name ∷ word ∷ [])) job (words_job (name ∷ word ∷ []))
    (no_volinfo (path_field word) job) (build_given (words_job (name ∷ word ∷ [])) job))

-- the job of words that are a build's
pub command_job : (words : List (List ℕ)) (job : Job) → command_of words ≡ Some (command.Build job) → words_job words ≡ Some job
unfolding command_of
command_job [] job e = build_given (words_job []) job e
command_job (name ∷ []) job e = build_given (words_job (name ∷ [])) job e
command_job (name ∷ word ∷ []) job e =
    others (same_text name (codes "replay")) (replay_from (path_field word))
    (cond (same_text name (codes "selftest")) (selftest_from (count_of word)) (cond (same_text name (codes "volinfo")) (volinfo_from (path_field word)) (build_from (name ∷ word ∷ [])))) job
    (words_job (name ∷ word ∷ [])) (no_replay (path_field word) job) (two_words name word job) e
command_job (name ∷ path ∷ word ∷ words) job e = build_given (words_job (name ∷ path ∷ word ∷ words)) job e

-- its fields are those of a job
pub is_command_job : (words : List (List ℕ)) (job : Job) → command_of words ≡ Some (command.Build job) → is_job (job_fields job) ≡ true
is_command_job words job e = is_job_of words job (command_job words job e)
