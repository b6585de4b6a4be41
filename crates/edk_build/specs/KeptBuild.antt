-- What a build does that begins with the cache that is kept: it writes its outputs, stores the text
-- of the cache that it leaves, and writes its summary.
use Rattle.std.specs.Prelude.{◌≡◌, ◌⊎◌, ◌-◌, ◌++◌, ◌∷◌, [], ℕ, List, Option, Some, Ok, Err}
use Rattle.std.specs.Option.{IfSome}
use Rattle.build_base.specs.Keeping.{Stores}
use Rattle.build_base.specs.Outside.{Files, Emission, Grew, HasFailed}
use Rattle.build_base.specs.Spelling.{Output, text, Spells, Spelled, SpelledCut}
use Rattle.build_base.specs.World.{World}
use Rattle.build_base.specs.declared.outside.KeeperFailed.TheVariants.{Failed}
use Rattle.build_base.specs.declared.outside.Target.{Target}
use Rattle.build_base.specs.declared.outside.Target.TheVariants.{Out as ToOut}
use Rattle.job_fields.specs.declared.job.Job.{Job}
use Rattle.step_cache.specs.CacheText.{IsCacheText}
use Rattle.step_engine.specs.Build.{setting, IsEntryOf, Ran, RanAll, HasRead}
use Rattle.step_engine.specs.Entries.{AreSound}
use Rattle.step_engine.specs.declared.talk.Entry.{Entry}
use Rattle.step_engine.specs.declared.talk.Outcome.{Outcome}
use Rattle.step_pack.specs.declared.key.Key.{Key}
use Rattle.step_pack.specs.declared.key.Key.TheVariants as key
use Rattle.step_pack.specs.declared.out.Out.{Out}
use Rattle.edk_build.specs.Building.{means, AgreesOnGood, IsBuilt, IsCounted, IsCutShort, IsOwn, Leaves, result_status}
use Rattle.edk_build.specs.Emitting.{outputs_of, status_of, summary}
use Rattle.edk_build.specs.Kept.{OfKept}
use Rattle.edk_build.specs.Outcome.{outcome, files_by}
use Rattle.edk_build.specs.Run.{plain, world_of}
use Rattle.edk_build.specs.Statuses.{OnEnd, OnUnwritten, OnUsage, OnWriteFault}
use Rattle.edk_build.specs.declared.status.Status.{Status}

-- what the sink and the keeper tell, and their counts of faults
pub record Told : Type 0 where
  pub written : Option (List Emission)
  pub kept : Option (Option (List ℕ))
  pub sink : ℕ
  pub keeper : ℕ

abbrev pub told : Option (List Emission) → Option (Option (List ℕ)) → ℕ → ℕ → Told
told written kept sink keeper =
    record { written = written; kept = kept; sink = sink; keeper = keeper }

-- all outputs were written, the text was stored, and the last line was written
pub record WroteAll (outputs : List Output) (line stored : List ℕ) (old new : Told) : Type 0 where
  pub written : Spelled old.written new.written (outputs ++ text ToOut line ∷ [])
  pub kept : Stores old.kept new.kept stored (Ok tt)
  pub sink : new.sink ≡ old.sink
  pub keeper : new.keeper ≡ old.keeper

-- the sink failed at the outputs: a cut of them was written, and what is kept is as before
pub record FailedBefore (outputs : List Output) (old new : Told) : Type 0 where
  pub written : SpelledCut old.written new.written outputs
  pub kept : new.kept ≡ old.kept
  pub sink : HasFailed old.sink new.sink
  pub keeper : new.keeper ≡ old.keeper

-- the store failed: all outputs were written, and what was kept, nothing or a prefix of the text is
-- kept
pub record FailedAtStore (outputs : List Output) (stored : List ℕ) (old new : Told) : Type 0 where
  pub written : Spelled old.written new.written outputs
  pub kept : Stores old.kept new.kept stored (Err Failed)
  pub sink : new.sink ≡ old.sink
  pub keeper : HasFailed old.keeper new.keeper

-- what is told grew by these outputs and by a prefix of a text
abbrev pub SpelledThenCut : Option (List Emission) → Option (List Emission) → List Output → Target
    → List ℕ → Type 0
SpelledThenCut old new outputs target bytes =
    (emissions : List Emission) × (front : List ℕ) × (rest : List ℕ)
    × Spells outputs emissions × (bytes ≡ front ++ rest)
    × Grew old new (emissions ++ (target, front) ∷ [])

-- the sink failed at the last line: all outputs and a prefix of the line were written, and the text
-- is kept
pub record FailedBehind (outputs : List Output) (line stored : List ℕ) (old new : Told)
    : Type 0 where
  pub written : SpelledThenCut old.written new.written outputs ToOut line
  pub kept : Stores old.kept new.kept stored (Ok tt)
  pub sink : HasFailed old.sink new.sink
  pub keeper : new.keeper ≡ old.keeper

-- the first call that failed was the last
abbrev pub EndsAtFailure : List Output → List ℕ → List ℕ → Told → Told → Type 0
EndsAtFailure outputs line stored old new =
    FailedBefore outputs old new ⊎ FailedAtStore outputs stored old new
    ⊎ FailedBehind outputs line stored old new

-- what a build makes before its first emission: its outputs, its last line and the text of the
-- cache that it leaves
pub record Makes (given : Outcome Out) (left : List (Entry Key Out)) (steps reused : ℕ)
    (outputs : List Output) (line stored : List ℕ) : Type 0 where
  pub stored_is : IsCacheText left stored
  pub outputs_are : (value : Key → Outcome Out) → AgreesOnGood given value left
      → outputs ≡ outputs_of plain (files_by value given)
  pub line_is : line ≡ summary plain (result_status given) steps reused

-- and what comes of them
abbrev pub AsMade : Outcome Out → List (Entry Key Out) → ℕ → ℕ
    → (List Output → List ℕ → List ℕ → Type 0) → Type 0
AsMade given left steps reused P =
    (outputs : List Output) × (line : List ℕ) × (stored : List ℕ)
    × Makes given left steps reused outputs line stored × P outputs line stored

-- A build makes its outputs of the entries that it leaves, also where the tree tells nothing: the
-- top step's entry is one of them. Each output has the bytes of the entry that it names, and no
-- bytes where there is none. A sound cache leaves an entry for each.
abbrev pub MadeOf : List (Entry Key Out)
    → (Outcome Out → List Output → List ℕ → List ℕ → Type 0) → Type 0
MadeOf left P =
    (given : Outcome Out) × (steps : ℕ) × (reused : ℕ) × IsEntryOf key.All given left
    × AsMade given left steps reused (P given)

-- A build came to its end that began with this cache: what is kept then is the text of the cache
-- that it left, and what that and the status are, also where the tree tells nothing.
pub record HasEnded (held : Option Files) (job : Job) (cache : List (Entry Key Out))
    (status : Status) (old new : Told) : Type 0 where
  pub left : List (Entry Key Out)
  pub stored : List ℕ
  pub stored_is : IsCacheText left stored
  pub kept : IfSome new.kept (λ kept. kept ≡ Some stored)
  pub own : IsOwn status left
  pub wrote : MadeOf left (λ given outputs line stored. (status ≡ result_status given)
      × WroteAll outputs line stored old new)
  pub sound : AreSound means cache → AreSound means left
  pub built : IfSome held (λ files. AreSound means cache
      → IsBuilt (world_of files job) cache plain status old.written new.written)
  pub leaves : IfSome held (λ files. AreSound means cache → Leaves (world_of files job) cache left)

-- what a build was to write and store in a world
pub record FollowsWorld (w : World) (cache : List (Entry Key Out)) (outputs : List Output) (line : List ℕ)
    (left : List (Entry Key Out)) : Type 0 where
  pub steps : ℕ
  pub needed : ℕ
  pub counted : IsCounted w cache steps needed
  pub outputs_are : outputs ≡ outputs_of plain (outcome w)
  pub line_is : line ≡ summary plain (status_of (outcome w)) steps (needed - steps)
  pub leaves : Leaves w cache left

-- a build stopped at a failed call that began with this cache
pub record HasStopped (held : Option Files) (job : Job) (cache : List (Entry Key Out))
    (old new : Told) : Type 0 where
  pub outputs : List Output
  pub line : List ℕ
  pub left : List (Entry Key Out)
  pub stored : List ℕ
  pub stored_is : IsCacheText left stored
  pub failed : EndsAtFailure outputs line stored old new
  pub made : MadeOf left (λ given outputs line stored. EndsAtFailure outputs line stored old new)
  pub sound : AreSound means cache → AreSound means left
  pub comes : IfSome held (λ files. AreSound means cache
      → FollowsWorld (world_of files job) cache outputs line left)
  pub cut : IfSome held (λ files. AreSound means cache
      → IsCutShort (world_of files job) cache plain old.written new.written)

-- A build from what was kept answered this status: what is written and kept where it came to its
-- end, failed in writing or stopped before that, and which counts of faults rose.
pub record HasBuilt (held : Option Files) (job : Job) (status : Status) (old new : Told)
    : Type 0 where
  pub ended : OnEnd status (OfKept old.kept (λ cache. HasEnded held job cache status old new))
  pub stopped : OnWriteFault status (OfKept old.kept (λ cache. HasStopped held job cache old new))
  pub kept : OnUnwritten status (new.kept ≡ old.kept)
  pub unwritten : OnUnwritten status (new.written ≡ old.written)
  pub no_usage : OnUsage status ⊥
  pub sink_count : OnEnd status (new.sink ≡ old.sink)
  pub keeper_count : OnEnd status (new.keeper ≡ old.keeper)
  pub write_fault : OnWriteFault status
      (HasFailed old.sink new.sink ⊎ HasFailed old.keeper new.keeper)

-- Such a build ran each step at most once, and only where it was wanted, and all of these where it
-- came to its end; it read each path at most once, and only where a needed step asks for it.
pub record RanWanted (held : Option Files) (fields : List (List ℕ))
    (kept : Option (Option (List ℕ))) (status : Status) (ran_before ran_after : List Key)
    (read_before read_after : Option (List (List ℕ))) : Type 0 where
  pub ran : (ran_after ≡ ran_before)
      ⊎ OfKept kept (λ cache. Ran (setting means held fields cache) key.All ran_before ran_after)
  pub all : OnEnd status
      (OfKept kept (λ cache. RanAll (setting means held fields cache) key.All ran_before ran_after))
  pub read : (read_after ≡ read_before)
      ⊎ OfKept kept (λ cache. HasRead (setting means held fields cache) key.All read_before
      read_after)
