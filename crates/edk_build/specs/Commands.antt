-- The words `build ..`, `replay SCRIPT`, `selftest N` and `volinfo IMAGE`.
use Rattle.std.specs.Prelude.{ℕ, List, [], ◌∷◌, map, Option, Some, String, codes, if◌then◌else◌}
use Rattle.std.specs.String.{string_bytes}
use Rattle.std.specs.Option.{option_map}
use Rattle.build_base.specs.Path.{path_field}
use Rattle.macro_expressions.specs.Macros.{same_text}
use Rattle.edk_build.specs.declared.command.Command.{Command}
use Rattle.edk_build.specs.declared.command.Command.TheVariants.{Build, Replay, Selftest, Volinfo}
use Rattle.build_words.specs.Jobs.{words_job}
use Rattle.job_fields.specs.declared.job.Job.{Job}
use Rattle.selftest_tree.specs.Count.{count_of}

abbrev pub build_from : List (List ℕ) → Option Command
build_from words = option_map Build (words_job words)

abbrev pub replay_from : Option (List ℕ) → Option Command
replay_from path = option_map Replay path

abbrev pub selftest_from : Option ℕ → Option Command
selftest_from count = option_map Selftest count

abbrev pub volinfo_from : Option (List ℕ) → Option Command
volinfo_from path = option_map Volinfo path

-- what the words are, or nothing where they aren't in the grammar
unfoldable pub command_of : List (List ℕ) → Option Command
command_of (command ∷ word ∷ []) =
    if same_text command (codes "replay") then replay_from (path_field word)
    else if same_text command (codes "selftest") then selftest_from (count_of word)
    else if same_text command (codes "volinfo") then volinfo_from (path_field word)
    else build_from (command ∷ word ∷ [])
command_of words = build_from words

-- what the words of a command line are
abbrev pub asked : {Z : Type 0} → List (String Z) → Option Command
asked words = command_of (map string_bytes words)

-- where they are a build's
abbrev pub IfBuild : Option Command → (Job → Type 0) → Type 0
IfBuild (Some (Build job)) P = P job
IfBuild _ P = Unit {0}

-- where they aren't a build's
abbrev pub IfNoBuild : Option Command → Type 0 → Type 0
IfNoBuild (Some (Build job)) P = Unit {0}
IfNoBuild _ P = P

-- they are a build's, and this holds
abbrev pub OfBuild : Option Command → Type 0 → Type 0
OfBuild (Some (Build job)) P = P
OfBuild _ P = ⊥

-- where they are a replay's
abbrev pub IfReplay : Option Command → (List ℕ → Type 0) → Type 0
IfReplay (Some (Replay at)) P = P at
IfReplay _ P = Unit {0}

-- where they are a selftest's
abbrev pub IfSelftest : Option Command → (ℕ → Type 0) → Type 0
IfSelftest (Some (Selftest n)) P = P n
IfSelftest _ P = Unit {0}

-- where they ask for the volumes of a file
abbrev pub IfVolinfo : Option Command → (List ℕ → Type 0) → Type 0
IfVolinfo (Some (Volinfo at)) P = P at
IfVolinfo _ P = Unit {0}

-- where they don't ask for a series of builds
abbrev pub IfNoSeries : Option Command → Type 0 → Type 0
IfNoSeries (Some (Replay at)) P = Unit {0}
IfNoSeries (Some (Selftest n)) P = Unit {0}
IfNoSeries _ P = P
