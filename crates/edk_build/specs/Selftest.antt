-- What a selftest does: three builds of one workspace, the third of them after an edit, each from
-- the cache that the one before it left. The rule is this project's own.
use Rattle.std.specs.Prelude.{◌≡◌, ◌⊎◌, ◌-◌, ◌++◌, ℕ, List, [], ◌∷◌, Option, Some, None, false, codes}
use Rattle.build_base.specs.Outside.{Files, Emission}
use Rattle.build_base.specs.Spelling.{Output, Spelled}
use Rattle.step_engine.specs.Build.{setting, Ran, RanAll}
use Rattle.step_engine.specs.Entries.{AreSound}
use Rattle.step_engine.specs.declared.talk.Entry.{Entry}
use Rattle.step_pack.specs.declared.key.Key.{Key}
use Rattle.step_pack.specs.declared.key.Key.TheVariants as key
use Rattle.step_pack.specs.declared.out.Out.{Out}
use Rattle.job_fields.specs.Fields.{job_fields}
use Rattle.job_fields.specs.declared.job.Job.{Job}
use Rattle.selftest_tree.specs.Tree.{workspace, edited_workspace}
use Rattle.edk_build.specs.Building.{means, IsCounted, Leaves}
use Rattle.edk_build.specs.Emitting.{emitted}
use Rattle.edk_build.specs.History.{Written, WrittenBehind}
use Rattle.edk_build.specs.Outcome.{outcome}
use Rattle.edk_build.specs.Run.{world_of}
use Rattle.edk_build.specs.declared.label.Label.{Label}
use Rattle.edk_build.specs.declared.status.Status.{Status}
use Rattle.edk_build.specs.declared.status.Status.TheVariants as answer

-- the job of the words `build -p T.dsc`
abbrev pub selftest_job : Job
selftest_job = record {
  files = record { platform = codes "T.dsc"; flash = None; report = None };
  names = record { target = None; tag = None; sku = None };
  arches = [];
  settings = record { defines = []; pcds = [] };
  images = record { devices = []; volumes = [] };
  workers = 1;
}

-- outputs go below a folder, which is the build's name in its summary; the summary tells no status
abbrev pub label_named : List ℕ → Label
label_named name = record { folder = Some name; tells_status = false }

-- one of the builds: its name, and the files of its workspace
pub record Turn : Type 0 where
  pub name : List ℕ
  pub files : Files

abbrev pub first_turn : ℕ → Turn
first_turn n = record { name = codes "first"; files = workspace n }

abbrev pub second_turn : ℕ → Turn
second_turn n = record { name = codes "second"; files = workspace n }

abbrev pub third_turn : ℕ → Turn
third_turn n = record { name = codes "third"; files = edited_workspace n }

-- what a build emits that begins with a cache
pub record TurnEmits (t : Turn) (cache : List (Entry Key Out)) (outputs : List Output) : Type 0 where
  pub steps : ℕ
  pub needed : ℕ
  pub counted : IsCounted (world_of t.files selftest_job) cache steps needed
  pub list : outputs ≡ emitted (label_named t.name) (outcome (world_of t.files selftest_job)) steps
      (needed - steps)

-- the steps that it ran, or some of them
abbrev pub RanSome : Turn → List (Entry Key Out) → List Key → List Key → Type 0
RanSome t cache a b = Ran (setting means (Some t.files) (job_fields selftest_job) cache) key.All a b

abbrev pub RanEach : Turn → List (Entry Key Out) → List Key → List Key → Type 0
RanEach t cache a b = RanAll (setting means (Some t.files) (job_fields selftest_job) cache) key.All
    a b

-- a build came to its end: what it emitted, the cache that it left, and what the book became
pub record TurnEnds (t : Turn) (cache : List (Entry Key Out)) (a : List Key) (outputs : List Output)
    (next : List (Entry Key Out)) (b : List Key) : Type 0 where
  pub gives : TurnEmits t cache outputs
  pub leaves : Leaves (world_of t.files selftest_job) cache next
  pub ran : RanSome t cache a b
  pub all : RanEach t cache a b
  pub sound : AreSound means next

-- and it is written
pub record TurnEnded (t : Turn) (cache : List (Entry Key Out)) (a : List Key)
    (next : List (Entry Key Out)) (b : List Key) (old new : Option (List Emission)) : Type 0 where
  pub outputs : List Output
  pub done : TurnEnds t cache a outputs next b
  pub written : Spelled old new outputs

-- a build stopped: the sink failed in what it emits, or memory was wanting before that
abbrev pub StopsAt : Turn → Status → List (Entry Key Out) → List Key → List Output → List Key
    → Type 0
StopsAt t answer.WriteFault cache a outputs b = TurnEmits t cache outputs × RanSome t cache a b
StopsAt t answer.WantOfMemory cache a outputs b = (outputs ≡ []) × RanSome t cache a b
StopsAt t _ cache a outputs b = ⊥

pub record TurnStopped (t : Turn) (status : Status) (cache : List (Entry Key Out)) (a b : List Key)
    (old new : Option (List Emission)) : Type 0 where
  pub outputs : List Output
  pub stopped : StopsAt t status cache a outputs b
  pub written : Written status old new outputs

-- Builds one after the other, each from the cache that the one before it left: all came to their
-- end, or one stopped. What the builds in front of that one emitted comes first, and then its own.
unfoldable pub AreBuilt : List Turn → Status → List (Entry Key Out) → List Key → List Output
    → List Output → List Key → Type 0
AreBuilt [] status cache a front back b = (status ≡ answer.Done) × (front ≡ []) × (back ≡ [])
    × (b ≡ a)
AreBuilt (t ∷ turns) status cache a front back b =
    (StopsAt t status cache a back b × (front ≡ []))
    ⊎ ((first : List Output) × (mid : List (Entry Key Out)) × (now : List Key)
    × (more : List Output)
    × TurnEnds t cache a first mid now × AreBuilt turns status mid now more back b
    × (front ≡ first ++ more))

-- What the builds in front emitted is written whole, and what the one that stopped emitted, or a cut
-- of it where the sink failed.
pub record WereBuilt (turns : List Turn) (status : Status) (cache : List (Entry Key Out))
    (a b : List Key) (old new : Option (List Emission)) : Type 0 where
  pub front : List Output
  pub back : List Output
  pub built : AreBuilt turns status cache a front back b
  pub written : WrittenBehind status old new front back

-- a selftest with n modules begins with no cache
abbrev pub IsSelftest : ℕ → Status → List Key → List Key → Option (List Emission)
    → Option (List Emission) → Type 0
IsSelftest n status a b old new =
    WereBuilt (first_turn n ∷ second_turn n ∷ third_turn n ∷ []) status [] a b old new

-- it is done, the sink failed, or memory was wanting
abbrev pub IsSelftestStatus : Status → Type 0
IsSelftestStatus answer.Done = Unit {0}
IsSelftestStatus answer.WriteFault = Unit {0}
IsSelftestStatus answer.WantOfMemory = Unit {0}
IsSelftestStatus _ = ⊥

-- Where the sink didn't fail, it is done or memory was wanting.
abbrev pub IsSelftestComplete : Type 0 → Status → Type 0
IsSelftestComplete sink_failed status = (sink_failed → ⊥) → (status ≡ answer.Done)
    ⊎ (status ≡ answer.WantOfMemory)
