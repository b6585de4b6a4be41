-- What a run of the words of a command line did, command by command.
use Rattle.std.specs.Prelude.{◌≡◌, ◌⊎◌, ℕ, List, Option, None, IfSome, IsSome}
use Rattle.build_base.specs.Outside.{Files, Emission, HasFailed}
use Rattle.job_fields.specs.declared.job.Job.{Job}
use Rattle.step_pack.specs.declared.key.Key.{Key}
use Rattle.edk_build.specs.History.{IsReplayed, IsUsage}
use Rattle.edk_build.specs.Kept.{IsSoundKept}
use Rattle.edk_build.specs.ReplayReads.{ReplayReads}
use Rattle.edk_build.specs.Run.{world_of, IsComplete}
use Rattle.edk_build.specs.Selftest.{IsSelftest, IsSelftestStatus, IsSelftestComplete}
use Rattle.edk_build.specs.Statuses.{OnUsage, OnBuild, IsUsageTold}
use Rattle.edk_build.specs.declared.command.Command.{Command}
use Rattle.edk_build.specs.declared.status.Status.{Status}

-- Where what is kept is sound, there is no fault and no object failed, the build is done or memory
-- was wanting.
abbrev pub IsBuildComplete : Option Files → Job → Option (Option (List ℕ)) → Status → ℕ → ℕ → ℕ → ℕ
    → ℕ → ℕ → Type 0
IsBuildComplete held job kept status tree tree' keeper keeper' sink sink' =
    IfSome held (λ files. IfSome kept (λ text. IsSoundKept text
    → IsComplete (world_of files job) (HasFailed tree tree' ⊎ HasFailed keeper keeper')
    (HasFailed sink sink') status))

-- What a replay of the script at a path did.
pub record HasReplayed (held : Option Files) (at : List ℕ) (status : Status)
    (ran_before ran_after : List Key) (old new : Option (List Emission))
    (read_before read_after : Option (List (List ℕ))) : Type 0 where
  pub replayed : IsReplayed held at status ran_before ran_after old new
  pub read : ReplayReads held at read_before read_after

-- What a selftest of n modules did; the last fact is that of the tree.
pub record HasTested (n : ℕ) (status : Status) (ran_before ran_after : List Key)
    (old new : Option (List Emission)) (sink sink' : ℕ) (Unasked : Type 0) : Type 0 where
  pub tested : IsSelftest n status ran_before ran_after old new
  pub complete : IsSelftestComplete (HasFailed sink sink') status
  pub ends : IsSelftestStatus status
  pub unasked : Unasked

-- Words or a script that aren't in the grammar have the usage text, and words that are a command's
-- have no such status. The last facts are that the tree wasn't asked, and that no step was noted.
pub record IsMisused (held : Option Files) (command : Option Command) (status : Status)
    (sink sink' : ℕ) (old new : Option (List Emission)) (Unasked Unnoted : Type 0) : Type 0 where
  pub misused : OnUsage status (IsUsage held command)
  pub grammar : OnBuild status (IsSome command)
  pub told : OnUsage status (IsUsageTold sink sink' old new)
  pub unasked : OnUsage status (command ≡ None → Unasked)
  pub unnoted : OnUsage status Unnoted
