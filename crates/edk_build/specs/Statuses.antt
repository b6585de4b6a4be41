-- Facts for some of the answers of a run.
use Rattle.std.specs.Prelude.{◌≡◌, ◌⊎◌, ℕ, List, [], ◌∷◌, Option, codes}
use Rattle.build_base.specs.declared.outside.Target.TheVariants.{Err as ToErr}
use Rattle.build_base.specs.Outside.{Emission, Grew, GrewCut, HasFailed}
use Rattle.edk_build.specs.declared.status.Status.{Status}
use Rattle.edk_build.specs.declared.status.Status.TheVariants.{Done, FileFault, Usage, ReadFault, WriteFault, WantOfMemory}

-- where the run came to its end
abbrev pub OnEnd : Status → Type 0 → Type 0
OnEnd Done P = P
OnEnd FileFault P = P
OnEnd _ P = Unit {0}

-- where all outputs were written
abbrev pub OnDone : Status → Type 0 → Type 0
OnDone Done P = P
OnDone _ P = Unit {0}

-- where it stopped before its first emission
abbrev pub OnUnwritten : Status → Type 0 → Type 0
OnUnwritten ReadFault P = P
OnUnwritten WantOfMemory P = P
OnUnwritten _ P = Unit {0}

-- where nothing was stored
abbrev pub OnUnkept : Status → Type 0 → Type 0
OnUnkept Usage P = P
OnUnkept ReadFault P = P
OnUnkept WantOfMemory P = P
OnUnkept _ P = Unit {0}

abbrev pub OnUsage : Status → Type 0 → Type 0
OnUsage Usage P = P
OnUsage _ P = Unit {0}

abbrev pub OnReadFault : Status → Type 0 → Type 0
OnReadFault ReadFault P = P
OnReadFault _ P = Unit {0}

abbrev pub OnWriteFault : Status → Type 0 → Type 0
OnWriteFault WriteFault P = P
OnWriteFault _ P = Unit {0}

-- where the words were taken as a build
abbrev pub OnBuild : Status → Type 0 → Type 0
OnBuild Usage P = Unit {0}
OnBuild WantOfMemory P = Unit {0}
OnBuild _ P = P

-- what a status says of the counts of faults of the tree and of the sink
pub record Causes (status : Status) (tree tree' sink sink' : ℕ) : Type 0 where
  pub ended : OnEnd status ((tree' ≡ tree) × (sink' ≡ sink))
  pub read_fault : OnReadFault status (HasFailed tree tree')
  pub write_fault : OnWriteFault status (HasFailed sink sink')

abbrev pub usage : List ℕ
usage = codes "usage\n"

-- The usage text went to standard error, or the sink failed and a part of it did.
abbrev pub IsUsageTold : ℕ → ℕ → Option (List Emission) → Option (List Emission) → Type 0
IsUsageTold before now old new =
    ((now ≡ before) × Grew old new ((ToErr, usage) ∷ []))
    ⊎ (HasFailed before now × GrewCut old new ToErr usage)
