-- What a replay does: edits and builds in the order of a script's lines, each build over the tree's
-- files after the edits above it, from the cache that the build above it left. The rule is this
-- project's own.
use Rattle.std.specs.Prelude.{◌≡◌, ◌⊎◌, ◌+◌, ◌-◌, ◌++◌, ℕ, List, [], ◌∷◌, Option, Some, None, decimal, true, Contains}
use Rattle.std.specs.Option.{IfSome, IsSomeAnd}
use Rattle.build_base.specs.Outside.{Files, Emission, got_of}
use Rattle.build_base.specs.declared.outside.Got.{Got}
use Rattle.build_base.specs.declared.outside.Got.TheVariants.{File, Absent, TooLong}
use Rattle.build_base.specs.declared.outside.Target.TheVariants.{Err as ToErr}
use Rattle.build_base.specs.declared.fault.Fault.{Fault}
use Rattle.build_base.specs.FaultText.{fault_of, fault_text}
use Rattle.build_base.specs.Spelling.{Output, text, Spelled, SpelledCut}
use Rattle.build_base.specs.World.{World, file_limit}
use Rattle.step_engine.specs.Build.{setting, Ran, RanAll}
use Rattle.step_engine.specs.Edits.{edited, over}
use Rattle.step_engine.specs.Entries.{AreSound}
use Rattle.step_engine.specs.declared.talk.Entry.{Entry}
use Rattle.step_pack.specs.declared.key.Key.{Key}
use Rattle.step_pack.specs.declared.key.Key.TheVariants as key
use Rattle.step_pack.specs.declared.out.Out.{Out}
use Rattle.edk_build.specs.Building.{means, IsCounted, Leaves}
use Rattle.edk_build.specs.Emitting.{emitted}
use Rattle.edk_build.specs.Outcome.{outcome}
use Rattle.edk_build.specs.Run.{world_of}
use Rattle.edk_build.specs.Script.{script_of}
use Rattle.job_fields.specs.Fields.{job_fields}
use Rattle.edk_build.specs.declared.command.Command.{Command}
use Rattle.edk_build.specs.declared.command.Command.TheVariants as command
use Rattle.job_fields.specs.declared.job.Job.{Job}
use Rattle.edk_build.specs.declared.label.Label.{Label}
use Rattle.edk_build.specs.declared.script.ScriptCommand.{ScriptCommand}
use Rattle.edk_build.specs.declared.script.ScriptCommand.TheVariants.{Put, Drop, Build}
use Rattle.edk_build.specs.declared.script.ScriptLine.{ScriptLine}
use Rattle.edk_build.specs.declared.replay_state.ReplayState.{ReplayState}
use Rattle.edk_build.specs.declared.status.Status.{Status}
use Rattle.edk_build.specs.declared.status.Status.TheVariants as answer
use Rattle.build_base.specs.FaultCodes.{FILE_TOO_LONG, FROM_ABSENT, SCRIPT_ABSENT}

-- before the first line
abbrev pub start : ReplayState
start = record { edits = []; cache = []; builds = 0 }

-- the k-th build, from 1, writes below the folder `k`, and tells its status
abbrev pub label_of : ℕ → Label
label_of k = record { folder = Some (decimal k); tells_status = true }

-- after one more edit
abbrev pub after_edit : ReplayState → List ℕ → Option (List ℕ) → ReplayState
after_edit s path bytes =
    record {
      edits = s.edits ++ record { path = path; bytes = bytes } ∷ [];
      cache = s.cache;
      builds = s.builds;
    }

-- after one more build, which left this cache
abbrev pub after_build : ReplayState → List (Entry Key Out) → ReplayState
after_build s cache = record { edits = s.edits; cache = cache; builds = s.builds + 1 }

-- the world of a build: the tree's files after the edits
abbrev pub world_at : Files → ReplayState → Job → World
world_at files s job = world_of (edited s.edits files) job

-- what the next build emits in a world
pub record BuildEmits (w : World) (s : ReplayState) (outputs : List Output) : Type 0 where
  pub steps : ℕ
  pub needed : ℕ
  pub counted : IsCounted w s.cache steps needed
  pub list : outputs ≡ emitted (label_of (s.builds + 1)) (outcome w) steps (needed - steps)

-- and which cache it leaves
pub record EmitsAndLeaves (w : World) (s : ReplayState) (outputs : List Output)
    (cache : List (Entry Key Out)) : Type 0 where
  pub gives : BuildEmits w s outputs
  pub leaves : Leaves w s.cache cache

-- a build came to its end: what it gave, where the tree tells what it holds, and the steps that it
-- ran
pub record IsBuild (held : Option Files) (job : Job) (s : ReplayState) (a : List Key)
    (outputs : List Output) (next : ReplayState) (b : List Key) : Type 0 where
  pub told : IfSome held (λ files. EmitsAndLeaves (world_at files s job) s outputs next.cache)
  pub ran : Ran (setting means (over s.edits held) (job_fields job) s.cache) key.All a b
  pub all : RanAll (setting means (over s.edits held) (job_fields job) s.cache) key.All a b
  pub sound : AreSound means next.cache
  pub stands : next ≡ after_build s next.cache

-- a file got the bytes that another one has in the tree
abbrev pub IsPut : Option Files → List ℕ → List ℕ → ReplayState → ReplayState → Type 0
IsPut held path from s next =
    (bytes : List ℕ) × IfSome held (λ files. got_of file_limit (files from) ≡ File bytes)
    × (next ≡ after_edit s path (Some bytes))

-- an order was carried out at a stand: what it emitted, the next stand, and what the book became
abbrev pub IsCarriedOut : Option Files → ScriptCommand → ReplayState → List Key → List Output → ReplayState → List Key
    → Type 0
IsCarriedOut held (Put path from) s a outputs next b = IsPut held path from s next × (outputs ≡ [])
    × (b ≡ a)
IsCarriedOut held (Drop path) s a outputs next b = (next ≡ after_edit s path None) × (outputs ≡ [])
    × (b ≡ a)
IsCarriedOut held (Build job) s a outputs next b = IsBuild held job s a outputs next b

-- lines were carried out, one after the other
unfoldable pub AreCarriedOut : Option Files → List ScriptLine → ReplayState → List Key → List Output → ReplayState
    → List Key → Type 0
AreCarriedOut held [] s a outputs next b = (next ≡ s) × (outputs ≡ []) × (b ≡ a)
AreCarriedOut held (line ∷ lines) s a outputs next b =
    (front : List Output) × (mid : ReplayState) × (now : List Key) × (back : List Output)
    × IsCarriedOut held line.order s a front mid now × AreCarriedOut held lines mid now back next b
    × (outputs ≡ front ++ back)

abbrev pub too_long : List ℕ → Fault
too_long path = fault_of FILE_TOO_LONG (record { path = path; line = 0 }) path

abbrev pub script_absent : List ℕ → Fault
script_absent at = fault_of SCRIPT_ABSENT (record { path = at; line = 0 }) at

abbrev pub from_absent : List ℕ → ℕ → List ℕ → Fault
from_absent at number from = fault_of FROM_ABSENT (record { path = at; line = number }) from

abbrev pub from_fault : List ℕ → ℕ → List ℕ → Got → Option Fault
from_fault at number from (File bytes) = None
from_fault at number from Absent = Some (from_absent at number from)
from_fault at number from TooLong = Some (too_long from)

-- the fault of an order: bytes are put from no file, or from one that is too long
abbrev pub order_fault : Files → List ℕ → ℕ → ScriptCommand → Option Fault
order_fault files at number (Put path from) =
    from_fault at number from (got_of file_limit (files from))
order_fault files at number _ = None

abbrev pub fault_outputs : Fault → List Output
fault_outputs fault = text ToErr (fault_text fault) ∷ []

-- the fault of an order is told
abbrev pub IsFaulty : Option Files → List ℕ → ℕ → ScriptCommand → List Output → Type 0
IsFaulty held at number order outputs =
    IfSome held (λ files. IsSomeAnd (order_fault files at number order)
    (λ fault. outputs ≡ fault_outputs fault))

-- what an order emits, where the last emission of a run failed
abbrev pub IsLast : Option Files → List ℕ → ℕ → ScriptCommand → ReplayState → List Output → Type 0
IsLast held at number (Build job) s outputs =
    IfSome held (λ files. BuildEmits (world_at files s job) s outputs)
IsLast held at number order s outputs = IsFaulty held at number order outputs

-- of an order that wasn't carried out, the book has steps of its build
abbrev pub HasBegun : Option Files → ScriptCommand → ReplayState → List Key → List Key → Type 0
HasBegun held (Build job) s a b =
    Ran (setting means (over s.edits held) (job_fields job) s.cache) key.All a b
HasBegun held _ s a b = b ≡ a

-- a replay stopped at an order, which had emitted this
abbrev pub StopsAt : Option Files → List ℕ → ScriptLine → Status → ReplayState → List Key → List Output
    → List Key → Type 0
StopsAt held at line answer.FileFault s a outputs b =
    IsFaulty held at line.number line.order outputs × (b ≡ a)
StopsAt held at line answer.ReadFault s a outputs b = (outputs ≡ [])
    × HasBegun held line.order s a b
StopsAt held at line answer.WriteFault s a outputs b =
    IsLast held at line.number line.order s outputs × HasBegun held line.order s a b
StopsAt held at line answer.WantOfMemory s a outputs b = (outputs ≡ [])
    × HasBegun held line.order s a b
StopsAt held at line _ s a outputs b = ⊥

-- an order was carried out, and what it emitted is written
pub record WasCarriedOut (held : Option Files) (order : ScriptCommand) (s : ReplayState) (a : List Key) (next : ReplayState)
    (b : List Key) (old new : Option (List Emission)) : Type 0 where
  pub outputs : List Output
  pub done : IsCarriedOut held order s a outputs next b
  pub written : IfSome held (λ files. Spelled old new outputs)

-- what is told grew by a spelling of the list, or of a cut of it where the sink failed
abbrev pub Written : Status → Option (List Emission) → Option (List Emission) → List Output → Type 0
Written answer.WriteFault old new outputs = SpelledCut old new outputs
Written _ old new outputs = Spelled old new outputs

-- what the lines above emitted is written whole, and what the last one emitted, or a cut of it
abbrev pub WrittenBehind : Status → Option (List Emission) → Option (List Emission) → List Output
    → List Output → Type 0
WrittenBehind status old new front back =
    (mid : Option (List Emission)) × Spelled old mid front × Written status mid new back

-- a replay stopped at a line, and what that emitted is written
pub record HasStoppedAtLine (held : Option Files) (at : List ℕ) (line : ScriptLine) (status : Status)
    (s : ReplayState) (a b : List Key) (old new : Option (List Emission)) : Type 0 where
  pub outputs : List Output
  pub stopped : StopsAt held at line status s a outputs b
  pub written : IfSome held (λ files. Written status old new outputs)

-- a replay ended with these lines left
abbrev pub EndsAt : Option Files → List ℕ → List ScriptLine → Status → ReplayState → List Key
    → List Output → List Key → Type 0
EndsAt held at [] status s a outputs b = (status ≡ answer.Done) × (outputs ≡ []) × (b ≡ a)
EndsAt held at (line ∷ lines) status s a outputs b = StopsAt held at line status s a outputs b

-- The history of a script: lines that were carried out, and how it ended. After status 0 that is
-- all lines, and after status 1 the lines above one whose fault was told.
pub record History (held : Option Files) (at : List ℕ) (lines : List ScriptLine) (status : Status)
    (a : List Key) (outputs : List Output) (b : List Key) : Type 0 where
  pub above : List ScriptLine
  pub left : List ScriptLine
  pub whole : lines ≡ above ++ left
  pub stand : ReplayState
  pub now : List Key
  pub front : List Output
  pub back : List Output
  pub done : AreCarriedOut held above start a front stand now
  pub ends : EndsAt held at left status stand now back b
  pub list : outputs ≡ front ++ back

-- a fault ends a run, unless memory was wanting for its text
abbrev pub IsTold : Fault → Status → Option (List Emission) → Option (List Emission) → Type 0
IsTold fault answer.FileFault old new = Spelled old new (fault_outputs fault)
IsTold fault answer.WriteFault old new = SpelledCut old new (fault_outputs fault)
IsTold fault answer.WantOfMemory old new = new ≡ old
IsTold fault _ old new = ⊥

-- the tree failed or memory was wanting before the first line
abbrev pub IsUnread : Status → Type 0
IsUnread answer.ReadFault = Unit {0}
IsUnread answer.WantOfMemory = Unit {0}
IsUnread _ = ⊥

-- what a script comes to that is in the grammar, or isn't
abbrev pub Follows : Option Files → List ℕ → Option (List ScriptLine) → Status → List Key → List Key
    → Option (List Emission) → Option (List Emission) → Type 0
Follows held at (Some lines) status a b old new =
    (outputs : List Output) × (h : History held at lines status a outputs b)
    × IfSome held (λ files. WrittenBehind status old new h.front h.back)
Follows held at None status a b old new = (status ≡ answer.Usage) × (b ≡ a)

-- what comes of what was got as the script
abbrev pub ReplayEnds : Option Files → List ℕ → Got → Status → List Key → List Key
    → Option (List Emission) → Option (List Emission) → Type 0
ReplayEnds held at (File bytes) status a b old new = Follows held at (script_of bytes) status a b old new
ReplayEnds held at Absent status a b old new = IsTold (script_absent at) status old new × (b ≡ a)
ReplayEnds held at TooLong status a b old new = IsTold (too_long at) status old new × (b ≡ a)

abbrev pub IsUntouched : Status → List Key → List Key → Option (List Emission)
    → Option (List Emission) → Type 0
IsUntouched status a b old new = IsUnread status × (b ≡ a) × (new ≡ old)

-- what a replay did: nothing, or what comes of the script that the tree has
abbrev pub IsReplayed : Option Files → List ℕ → Status → List Key → List Key
    → Option (List Emission) → Option (List Emission) → Type 0
IsReplayed held at status a b old new =
    IsUntouched status a b old new
    ⊎ ((script : Got) × IfSome held (λ files. script ≡ got_of file_limit (files at))
    × ReplayEnds held at script status a b old new)

abbrev pub script_in : Got → Option (List ScriptLine)
script_in (File bytes) = script_of bytes
script_in _ = None

-- a script that isn't in the grammar
abbrev pub IsMisspelt : Got → Type 0
IsMisspelt (File bytes) = script_of bytes ≡ None
IsMisspelt _ = ⊥

abbrev pub HasNoFault : Files → List ℕ → List ScriptLine → Type 0
HasNoFault files at lines = (line : ScriptLine) → Contains lines line
    → order_fault files at line.number line.order ≡ None

-- status 2 comes of words, or of a script, that aren't in the grammar
abbrev pub IsUsage : Option Files → Option Command → Type 0
IsUsage held None = Unit {0}
IsUsage held (Some (command.Build job)) = ⊥
IsUsage held (Some (command.Selftest n)) = ⊥
IsUsage held (Some (command.Volinfo at)) = ⊥
IsUsage held (Some (command.Replay at)) =
    IfSome held (λ files. IsMisspelt (got_of file_limit (files at)))

-- Where the script is in the grammar, no line has a fault and no object failed, the replay is done
-- or memory was wanting.
abbrev pub IsReplayComplete : Files → List ℕ → Type 0 → Type 0 → Status → Type 0
IsReplayComplete files at tree_failed sink_failed status =
    IfSome (script_in (got_of file_limit (files at))) (λ lines.
    HasNoFault files at lines → (tree_failed → ⊥) → (sink_failed → ⊥) → (status ≡ answer.Done)
    ⊎ (status ≡ answer.WantOfMemory))
