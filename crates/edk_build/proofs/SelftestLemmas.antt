-- From what builds have done to what a selftest has done.
use Rattle.std.proofs.Common.{◌≡◌, inl, inr, refl, sym, ◌∙◌, ℕ, ◌-◌, ◌++◌, List, [], ◌∷◌, Option, Some, None, true, arith, subst, Err}
use Rattle.std.proofs.Common.{append-nil}
use Rattle.build_base.specs.Outside.{Files, Emission, HasFailed}
use Rattle.build_base.specs.Path.{is_path, is_segment, is_dots, is_path_byte}
use Rattle.build_base.proofs.SpellingLemmas.{Spelled-then}
use Rattle.build_base.specs.Spelling.{Output, Spelled, SpelledCut}
use Rattle.build_base.specs.World.{World}
use Rattle.step_engine.specs.Build.{setting, IsHere, Ran, RanAll}
use Rattle.step_engine.specs.Edits.{over}
use Rattle.step_engine.specs.Entries.{AreSound}
use Rattle.step_engine.specs.declared.edits.Edit.{Edit}
use Rattle.step_engine.specs.declared.talk.Entry.{Entry}
use Rattle.step_pack.specs.declared.key.Key.{Key}
use Rattle.step_pack.specs.declared.key.Key.TheVariants as key
use Rattle.step_pack.specs.declared.out.Out.{Out}
use Rattle.job_fields.specs.Readings.{is_job}
use Rattle.job_fields.specs.Fields.{job_fields}
use Rattle.edk_build.proofs.ReplayLemmas.{grew_nothing}
use Rattle.edk_build.proofs.RunLemmas.{same_ran, same_all, told_over}
use Rattle.edk_build.specs.Building.{means, IsBuilt, IsCutShort, Leaves}
use Rattle.edk_build.specs.Commands.{IfSelftest}
use Rattle.edk_build.specs.Emitting.{emitted}
use Rattle.edk_build.specs.Outcome.{outcome}
use Rattle.edk_build.specs.Run.{world_of}
use Rattle.edk_build.specs.Selftest.{selftest_job, label_named, Turn, first_turn, second_turn, third_turn, TurnEnded, StopsAt, TurnStopped, AreBuilt, WereBuilt, IsSelftest, IsSelftestStatus, IsSelftestComplete}
use Rattle.edk_build.specs.Statuses.{OnUsage, OnReadFault, OnWriteFault}
use Rattle.edk_build.specs.Stops.{IfReadFault, IfWriteFault, IfUnwritten, stop_status}
use Rattle.edk_build.specs.TopCall.{HasTested}
use Rattle.edk_build.specs.declared.build.Built.{Built}
use Rattle.edk_build.specs.declared.command.Command.{Command}
use Rattle.edk_build.specs.declared.command.Command.TheVariants as command
use Rattle.edk_build.specs.declared.label.Label.{Label}
use Rattle.edk_build.specs.declared.status.Status.{Status}
use Rattle.edk_build.specs.declared.status.Status.TheVariants as status
use Rattle.edk_build.specs.declared.stop.Stop.{Stop}
use Rattle.edk_build.specs.declared.stop.Stop.TheVariants as stop

nothing_grown : (before now : Option (List Emission)) → now ≡ before → Spelled before now []
nothing_grown before now e = ([], refl, grew_nothing before now e)

pub selftest_is_job : is_job (job_fields selftest_job) ≡ true
unfolding job_fields is_path is_segment is_dots is_path_byte
selftest_is_job = refl

-- the world of a build
here_at : (t : Turn) (f : List (List ℕ)) (old : List (Entry Key Out)) → f ≡ job_fields selftest_job → AreSound means old
    → IsHere (setting means (Some t.files) f old) (world_of t.files selftest_job)
here_at t f old e sound = record { told = refl; fields = sym e; world = selftest_is_job; sound = sound }

-- what `build` promises of a build that came to its end
pub record Ended (h : Option Files) (f : List (List ℕ)) (old : List (Entry Key Out)) (label : Label) (st : Status) (next : List (Entry Key Out)) (a b : List Key) (before now : Option (List Emission)) : Type 0 where
  pub built : (w : World) → IsHere (setting means h f old) w → IsBuilt w old label st before now
  pub left : (w : World) → IsHere (setting means h f old) w → Leaves w old next
  pub ran : Ran (setting means h f old) key.All a b
  pub all : RanAll (setting means h f old) key.All a b
  pub sound : AreSound means old → AreSound means next

turn_done : (t : Turn) (f : List (List ℕ)) (old : List (Entry Key Out)) (label : Label) (st : Status) (next : List (Entry Key Out)) (a b : List Key) (before now : Option (List Emission))
    → f ≡ job_fields selftest_job → label ≡ label_named t.name → AreSound means old → Ended (Some t.files) f old label st next a b before now → TurnEnded t old a next b before now
turn_done t f old label st next a b before now e l sound x =
    let w : World = world_of t.files selftest_job in
    let h : IsHere (setting means (Some t.files) f old) w = here_at t f old e sound in
    let m : IsBuilt w old label st before now = x.built w h in
    record {
      outputs = emitted (label_named t.name) (outcome w) m.steps (m.needed - m.steps);
      done = record {
        gives = record { steps = m.steps; needed = m.needed; counted = m.counted; list = refl };
        leaves = x.left w h;
        ran = same_ran (Some t.files) f (job_fields selftest_job) old old a b e refl x.ran;
        all = same_all (Some t.files) f (job_fields selftest_job) old old a b e refl x.all;
        sound = x.sound sound;
      };
      written = subst (λ z. Spelled before now (emitted z (outcome w) m.steps (m.needed - m.steps))) l m.written;
    }

-- over a tree that tells its files, without edits
told_turn : (t : Turn) (held : Option Files) (es : List Edit) → held ≡ Some t.files → es ≡ [] → over es held ≡ Some t.files
told_turn t held es h n = told_over held es n ∙ h

pub was_done : (t : Turn) (held : Option Files) (es : List Edit) (f : List (List ℕ)) (old : List (Entry Key Out)) (label : Label) (st : Status) (next : List (Entry Key Out)) (a b : List Key) (before now : Option (List Emission))
    → held ≡ Some t.files → es ≡ [] → f ≡ job_fields selftest_job → label ≡ label_named t.name → AreSound means old → Ended (over es held) f old label st next a b before now
    → TurnEnded t old a next b before now
was_done t held es f old label st next a b before now h n e l sound x =
    turn_done t f old label st next a b before now e l sound (subst (λ z. Ended z f old label st next a b before now) (told_turn t held es h n) x)

-- what `build` promises of one that stopped, over a tree that doesn't fail
pub record Halted (h : Option Files) (f : List (List ℕ)) (old : List (Entry Key Out)) (label : Label) (e : Stop) (a b : List Key) (before now : Option (List Emission)) : Type 0 where
  pub cut : IfWriteFault {A = Built} (Err e) ((w : World) → IsHere (setting means h f old) w → IsCutShort w old label before now)
  pub unwritten : IfUnwritten {A = Built} (Err e) (now ≡ before)
  pub read_fault : IfReadFault {A = Built} (Err e) (HasFailed 0 0)
  pub ran : Ran (setting means h f old) key.All a b

turn_stopped : (t : Turn) (f : List (List ℕ)) (old : List (Entry Key Out)) (label : Label) (e : Stop) (a b : List Key) (before now : Option (List Emission))
    → f ≡ job_fields selftest_job → label ≡ label_named t.name → AreSound means old → Halted (Some t.files) f old label e a b before now → TurnStopped t (stop_status e) old a b before now
turn_stopped t f old label stop.ReadFault a b before now q l sound x = absurd (omega (arith, x.read_fault.rose))
turn_stopped t f old label stop.WantOfMemory a b before now q l sound x = record {
  outputs = [];
  stopped = (refl, same_ran (Some t.files) f (job_fields selftest_job) old old a b q refl x.ran);
  written = nothing_grown before now x.unwritten;
}
turn_stopped t f old label stop.WriteFault a b before now q l sound x =
    let w : World = world_of t.files selftest_job in
    let m : IsCutShort w old label before now = x.cut w (here_at t f old q sound) in
    record {
      outputs = emitted (label_named t.name) (outcome w) m.steps (m.needed - m.steps);
      stopped = (
        record { steps = m.steps; needed = m.needed; counted = m.counted; list = refl },
        same_ran (Some t.files) f (job_fields selftest_job) old old a b q refl x.ran,
      );
      written = subst (λ z. SpelledCut before now (emitted z (outcome w) m.steps (m.needed - m.steps))) l m.written;
    }

pub has_stopped : (t : Turn) (held : Option Files) (es : List Edit) (f : List (List ℕ)) (old : List (Entry Key Out)) (label : Label) (e : Stop) (a b : List Key) (before now : Option (List Emission))
    → held ≡ Some t.files → es ≡ [] → f ≡ job_fields selftest_job → label ≡ label_named t.name → AreSound means old → Halted (over es held) f old label e a b before now
    → TurnStopped t (stop_status e) old a b before now
has_stopped t held es f old label e a b before now h n q l sound x =
    turn_stopped t f old label e a b before now q l sound (subst (λ z. Halted z f old label e a b before now) (told_turn t held es h n) x)

-- memory was wanting before a build had done anything
pub stopped_early : (t : Turn) (old : List (Entry Key Out)) (a : List Key) (w : Option (List Emission)) → TurnStopped t status.WantOfMemory old a a w w
stopped_early t old a w = record {
  outputs = [];
  stopped = (refl, ([], sym (append-nil a), tt, λ w h k c. absurd (omega (arith, c.1))));
  written = nothing_grown w w refl;
}

-- a build that stopped ends the series
pub series_stopped : (t : Turn) (turns : List Turn) (st : Status) (old : List (Entry Key Out)) (a b : List Key) (before now : Option (List Emission))
    → TurnStopped t st old a b before now → WereBuilt (t ∷ turns) st old a b before now
unfolding AreBuilt
series_stopped t turns st old a b before now h = record {
  front = [];
  back = h.outputs;
  built = inl (h.stopped, refl);
  written = (before, nothing_grown before before refl, h.written);
}

-- one build more in front of the others
pub series_more : (t : Turn) (turns : List Turn) (st : Status) (old : List (Entry Key Out)) (a : List Key) (mid : List (Entry Key Out)) (m b : List Key) (before w now : Option (List Emission))
    → TurnEnded t old a mid m before w → WereBuilt turns st mid m b w now → WereBuilt (t ∷ turns) st old a b before now
unfolding AreBuilt
series_more t turns st old a mid m b before w now d x = record {
  front = d.outputs ++ x.front;
  back = x.back;
  built = inr (d.outputs, mid, m, x.front, d.done, x.built, refl);
  written = (x.written.0, Spelled-then before w x.written.0 d.outputs x.front d.written x.written.1, x.written.2);
}

-- no build is left
pub series_ended : (cache : List (Entry Key Out)) (a : List Key) (w : Option (List Emission)) → WereBuilt [] status.Done cache a a w w
unfolding AreBuilt
series_ended cache a w = record { front = []; back = []; built = (refl, refl, refl, refl); written = (w, nothing_grown w w refl, nothing_grown w w refl) }

stops_well : (t : Turn) (st : Status) (cache : List (Entry Key Out)) (a : List Key) (outputs : List Output) (b : List Key) → StopsAt t st cache a outputs b → IsSelftestStatus st
stops_well t status.Done cache a outputs b x = absurd x
stops_well t status.FileFault cache a outputs b x = absurd x
stops_well t status.Usage cache a outputs b x = absurd x
stops_well t status.ReadFault cache a outputs b x = absurd x
stops_well t status.WriteFault cache a outputs b x = tt
stops_well t status.WantOfMemory cache a outputs b x = tt

built_well : (turns : List Turn) (st : Status) (cache : List (Entry Key Out)) (a : List Key) (front back : List Output) (b : List Key) → AreBuilt turns st cache a front back b → IsSelftestStatus st
unfolding AreBuilt
built_well [] st cache a front back b x = subst IsSelftestStatus (sym x.0) tt
built_well (t ∷ turns) st cache a front back b (inl x) = stops_well t st cache a back b x.0
built_well (t ∷ turns) st cache a front back b (inr x) = built_well turns st x.1 x.2 x.3 back b x.5

pub series_status : (turns : List Turn) (st : Status) (cache : List (Entry Key Out)) (a b : List Key) (before now : Option (List Emission))
    → WereBuilt turns st cache a b before now → IsSelftestStatus st
series_status turns st cache a b before now x = built_well turns st cache a x.front x.back b x.built

pub status_usage : (st : Status) → IsSelftestStatus st → OnUsage st ⊥
status_usage status.Done x = tt
status_usage status.FileFault x = tt
status_usage status.Usage x = x
status_usage status.ReadFault x = tt
status_usage status.WriteFault x = tt
status_usage status.WantOfMemory x = tt

pub status_read_fault : (st : Status) → IsSelftestStatus st → OnReadFault st ⊥
status_read_fault status.Done x = tt
status_read_fault status.FileFault x = tt
status_read_fault status.Usage x = tt
status_read_fault status.ReadFault x = x
status_read_fault status.WriteFault x = tt
status_read_fault status.WantOfMemory x = tt

pub status_complete : (st : Status) (before now : ℕ) → IsSelftestStatus st → OnWriteFault st (HasFailed before now) → IsSelftestComplete (HasFailed before now) st
status_complete status.Done before now x f = λ no. inl refl
status_complete status.FileFault before now x f = λ no. absurd x
status_complete status.Usage before now x f = λ no. absurd x
status_complete status.ReadFault before now x f = λ no. absurd x
status_complete status.WriteFault before now x f = λ no. absurd (no f)
status_complete status.WantOfMemory before now x f = λ no. inr refl

-- memory was wanting before a selftest had begun
selftest_early : (command : Option Command) (a : List Key) (w : Option (List Emission)) → IfSelftest command (λ n. IsSelftest n status.WantOfMemory a a w w)
selftest_early None a w = tt
selftest_early (Some (command.Build job)) a w = tt
selftest_early (Some (command.Replay at)) a w = tt
selftest_early (Some (command.Volinfo at)) a w = tt
selftest_early (Some (command.Selftest n)) a w =
    series_stopped (first_turn n) (second_turn n ∷ third_turn n ∷ []) status.WantOfMemory [] a a w w (stopped_early (first_turn n) [] a w)

-- words that weren't read are no selftest's
pub tested_early : (command : Option Command) (a : List Key) (w : Option (List Emission)) (sink : ℕ) (U : Type 0) → U → IfSelftest command (λ n. HasTested n status.WantOfMemory a a w w sink sink U)
tested_early None a w sink U u = tt
tested_early (Some (command.Build job)) a w sink U u = tt
tested_early (Some (command.Replay at)) a w sink U u = tt
tested_early (Some (command.Volinfo at)) a w sink U u = tt
tested_early (Some (command.Selftest n)) a w sink U u =
    record { tested = selftest_early (Some (command.Selftest n)) a w; complete = λ f. inr refl; ends = tt; unasked = u }
