-- Separate runs of `build` with one keeper, and edits of the files between them: what the clauses
-- of a run say of each, and what follows for all. The rule is this project's own.
use Rattle.std.specs.Prelude.{◌≡◌, ℕ, List, [], ◌∷◌, Option, Some}
use Rattle.build_base.specs.Outside.{Files}
use Rattle.job_fields.specs.declared.job.Job.{Job}
use Rattle.step_engine.specs.Entries.{AreSound}
use Rattle.step_engine.specs.declared.talk.Entry.{Entry}
use Rattle.step_pack.specs.declared.key.Key.{Key}
use Rattle.step_pack.specs.declared.out.Out.{Out}
use Rattle.step_cache.specs.CacheText.{IsCacheText}
use Rattle.edk_build.specs.Building.{means, IsBuilt, IsCutShort, Leaves}
use Rattle.edk_build.specs.Kept.{OfKept, StandsFor, StaysSound}
use Rattle.edk_build.specs.KeptBuild.{Told, HasEnded, HasStopped}
use Rattle.edk_build.specs.Run.{plain, world_of}
use Rattle.edk_build.specs.Statuses.{OnEnd, OnUnwritten, OnWriteFault}
use Rattle.edk_build.specs.declared.status.Status.{Status}
use Rattle.edk_build.specs.declared.status.Status.TheVariants.{Done, FileFault}

-- a run of a job over these files, its status, what is kept before it and after it, and what the
-- sink and the keeper tell
pub record BuildRun : Type 0 where
  pub files : Files
  pub job : Job
  pub status : Status
  pub before : Option (List ℕ)
  pub after : Option (List ℕ)
  pub old : Told
  pub new : Told

-- the keeper tells what it keeps, and the clauses of a run hold
pub record IsRun (r : BuildRun) : Type 0 where
  pub told_before : r.old.kept ≡ Some r.before
  pub told_after : r.new.kept ≡ Some r.after
  pub built : OnEnd r.status
      (OfKept r.old.kept (λ cache. HasEnded (Some r.files) r.job cache r.status r.old r.new))
  pub stopped : OnWriteFault r.status
      (OfKept r.old.kept (λ cache. HasStopped (Some r.files) r.job cache r.old r.new))
  pub kept : OnUnwritten r.status (r.new.kept ≡ r.old.kept)
  pub unwritten : OnUnwritten r.status (r.new.written ≡ r.old.written)
  pub stays_sound : StaysSound r.old.kept r.new.kept

-- each begins with what the one before it kept, however that ended
abbrev pub Follow : Option (List ℕ) → List BuildRun → Type 0
Follow kept [] = Unit {0}
Follow kept (r ∷ runs) = (r.before ≡ kept) × IsRun r × Follow r.after runs

-- of the cache that what is kept stands for, which is sound
abbrev pub FromKept : Option (List ℕ) → (List (Entry Key Out) → Type 0) → Type 0
FromKept kept P = (cache : List (Entry Key Out)) × StandsFor kept cache × AreSound means cache
    × P cache

-- A run that began with this cache came to its end: it wrote all that the definitions give for its
-- words and its files, and the text of the cache that it left is kept.
pub record EndsRight (r : BuildRun) (cache : List (Entry Key Out)) : Type 0 where
  pub built : IsBuilt (world_of r.files r.job) cache plain r.status r.old.written r.new.written
  pub left : List (Entry Key Out)
  pub stored : List ℕ
  pub stored_is : IsCacheText left stored
  pub kept : r.after ≡ Some stored
  pub leaves : Leaves (world_of r.files r.job) cache left

-- A run that began with this cache stopped at a call that failed: it wrote a cut of that, and what
-- is kept is what the calls before it and the failed one left.
pub record StopsRight (r : BuildRun) (cache : List (Entry Key Out)) : Type 0 where
  pub cut : IsCutShort (world_of r.files r.job) cache plain r.old.written r.new.written
  pub stopped : HasStopped (Some r.files) r.job cache r.old r.new

-- a run ended, stopped at a failed call, or stopped before its first emission and left all as it was
pub record IsRight (r : BuildRun) : Type 0 where
  pub built : OnEnd r.status (FromKept r.before (EndsRight r))
  pub cut : OnWriteFault r.status (FromKept r.before (StopsRight r))
  pub left : OnUnwritten r.status ((r.after ≡ r.before) × (r.new.written ≡ r.old.written))

abbrev pub AreRight : List BuildRun → Type 0
AreRight [] = Unit {0}
AreRight (r ∷ runs) = IsRight r × AreRight runs

abbrev pub IsEnd : Status → Type 0
IsEnd Done = Unit {0}
IsEnd FileFault = Unit {0}
IsEnd _ = ⊥

-- a run came to its end and ran no step
abbrev pub RanNothing : BuildRun → Type 0
RanNothing r = FromKept r.before (λ cache.
    (b : IsBuilt (world_of r.files r.job) cache plain r.status r.old.written r.new.written)
    × (b.steps ≡ 0))
