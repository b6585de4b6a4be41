-- From what lines have done to what a replay has done.
use Rattle.std.proofs.Common.{◌≡◌, refl, sym, ap, ◌∙◌, ℕ, ◌+◌, ◌-◌, ◌<◌, ◌≤◌, ◌++◌, length, take, drop, get_or, List, [], ◌∷◌, Option, Some, None, true, append_assoc, append-nil, arith, subst, Result, Ok, Err, IfErr}
use Rattle.std.specs.Option.{IfSome, IsSomeAnd}
use Rattle.std.specs.Result.{IsErrAnd}
use Rattle.std.proofs.lemmas.List.{take_all}
use Rattle.std.proofs.lemmas.List.Elements.{All-tail}
use Rattle.build_base.proofs.OptionLemmas.{some_then, some_both}
use Rattle.build_base.proofs.SpellingLemmas.{Spelled-then}
use Rattle.build_base.specs.Outside.{Files, Emission, Grew, got_of}
use Rattle.build_base.specs.declared.outside.Got.{Got}
use Rattle.build_base.specs.declared.fault.Fault.{Fault}
use Rattle.build_base.specs.Spelling.{Output, Spelled, SpelledCut}
use Rattle.build_base.specs.World.{World, file_limit}
use Rattle.step_engine.specs.Build.{setting, IsHere, Ran, RanAll}
use Rattle.step_engine.specs.Edits.{over}
use Rattle.step_engine.specs.Entries.{AreSound}
use Rattle.step_engine.specs.declared.talk.Entry.{Entry}
use Rattle.step_pack.specs.declared.key.Key.{Key}
use Rattle.step_pack.specs.declared.key.Key.TheVariants as key
use Rattle.step_pack.specs.declared.out.Out.{Out}
use Rattle.job_fields.specs.Readings.{is_job}
use Rattle.edk_build.proofs.RunLemmas.{same_ran, same_all}
use Rattle.edk_build.specs.Building.{means, IsBuilt, IsCutShort, Leaves}
use Rattle.edk_build.specs.Emitting.{emitted}
use Rattle.edk_build.specs.History.{start, label_of, after_edit, after_build, world_at, IsCarriedOut, AreCarriedOut, from_fault, order_fault, fault_outputs, IsFaulty, HasBegun, WasCarriedOut, Written, WrittenBehind, HasStoppedAtLine, IsTold, Follows}
use Rattle.edk_build.specs.Outcome.{outcome}
use Rattle.edk_build.specs.Script.{HaveJobs, HasJob, script_line}
use Rattle.edk_build.specs.Stops.{IfWriteFault, IfUnwritten, stop_status}
use Rattle.job_fields.specs.Fields.{job_fields}
use Rattle.edk_build.specs.declared.build.Built.{Built}
use Rattle.job_fields.specs.declared.job.Job.{Job}
use Rattle.edk_build.specs.declared.label.Label.{Label}
use Rattle.edk_build.specs.declared.script.ScriptCommand.{ScriptCommand}
use Rattle.edk_build.specs.declared.script.ScriptCommand.TheVariants as order
use Rattle.edk_build.specs.declared.script.ScriptLine.{ScriptLine}
use Rattle.edk_build.specs.declared.replay_state.ReplayState.{ReplayState}
use Rattle.edk_build.specs.declared.status.Status.{Status}
use Rattle.edk_build.specs.declared.status.Status.TheVariants as status
use Rattle.edk_build.specs.declared.stop.Stop.{Stop}
use Rattle.edk_build.specs.declared.stop.Stop.TheVariants as stop

pub grew_nothing : (old new : Option (List Emission)) → new ≡ old → Grew old new []
grew_nothing old None e = tt
grew_nothing old (Some now) e = (now, sym e, sym (append-nil now))

pub nothing_spelled : (held : Option Files) (old new : Option (List Emission)) → new ≡ old → IfSome held (λ files. Spelled old new [])
nothing_spelled None old new e = tt
nothing_spelled (Some files) old new e = ([], refl, grew_nothing old new e)

always : (held : Option Files) (P : Files → Type 0) → ((files : Files) → P files) → IfSome held P
always None P p = tt
always (Some files) P p = p files

-- one line more was carried out
done_more : (held : Option Files) (above : List ScriptLine) (line : ScriptLine) (s : ReplayState) (a : List Key) (front : List Output) (mid : ReplayState) (now : List Key)
    (more : List Output) (next : ReplayState) (b : List Key) → AreCarriedOut held above s a front mid now → IsCarriedOut held line.order mid now more next b
    → AreCarriedOut held (above ++ line ∷ []) s a (front ++ more) next b
unfolding AreCarriedOut
done_more held [] line s a front mid now more next b d one = (
  more,
  next,
  b,
  [],
  subst (λ z. IsCarriedOut held line.order z a more next b) d.0 (subst (λ z. IsCarriedOut held line.order mid z more next b) d.2 one),
  (refl, refl, refl),
  ap (λ z. z ++ more) d.1 ∙ sym (append-nil more),
)
done_more held (first ∷ above) line s a front mid now more next b d one = (
  d.0,
  d.1,
  d.2,
  d.3 ++ more,
  d.4,
  done_more held above line d.1 d.2 d.3 mid now more next b d.5 one,
  ap (λ z. z ++ more) d.6 ∙ append_assoc d.0 d.3 more,
)

-- what a replay has done before the lines that are left
pub record SoFar (held : Option Files) (lines left : List ScriptLine) (stand : ReplayState) (a now : List Key) (old new : Option (List Emission)) : Type 0 where
  pub above : List ScriptLine
  pub whole : lines ≡ above ++ left
  pub front : List Output
  pub done : AreCarriedOut held above start a front stand now
  pub written : IfSome held (λ files. Spelled old new front)
  pub jobs : HaveJobs left
  pub sound : AreSound means stand.cache

pub none_sound : (cache : List (Entry Key Out)) → cache ≡ [] → AreSound means cache
none_sound cache e = subst (AreSound means) (sym e) (λ k x h. absurd (omega arith))

pub so_far_begun : (held : Option Files) (lines : List ScriptLine) (stand : ReplayState) (a : List Key) (old : Option (List Emission)) → stand ≡ start → HaveJobs lines
    → SoFar held lines lines stand a a old old
unfolding AreCarriedOut
so_far_begun held lines stand a old e jobs = record {
  above = [];
  whole = refl;
  front = [];
  done = (e, refl, refl);
  written = nothing_spelled held old old refl;
  jobs = jobs;
  sound = none_sound stand.cache (ap (λ s. s.cache) e);
}

pub so_far_more : (held : Option Files) (lines : List ScriptLine) (line : ScriptLine) (left : List ScriptLine) (stand : ReplayState) (a now : List Key) (next : ReplayState) (b : List Key) (old mid new : Option (List Emission))
    → SoFar held lines (line ∷ left) stand a now old mid → WasCarriedOut held line.order stand now next b mid new → AreSound means next.cache → SoFar held lines left next a b old new
so_far_more held lines line left stand a now next b old mid new f w sound = record {
  above = f.above ++ line ∷ [];
  whole = f.whole ∙ sym (append_assoc f.above (line ∷ []) left);
  front = f.front ++ w.outputs;
  done = done_more held f.above line start a f.front stand now w.outputs next b f.done w.done;
  written =
      some_both held (λ files. Spelled old mid f.front) (λ files. Spelled mid new w.outputs) (λ files. Spelled old new (f.front ++ w.outputs)) f.written w.written
      (λ files s t. Spelled-then old mid new f.front w.outputs s t);
  jobs = All-tail (λ l. HasJob l.order) line left f.jobs;
  sound = sound;
}

pub so_far_stopped : (held : Option Files) (at : List ℕ) (lines : List ScriptLine) (line : ScriptLine) (left : List ScriptLine) (stand : ReplayState) (a now : List Key) (st : Status) (b : List Key) (old mid new : Option (List Emission))
    → SoFar held lines (line ∷ left) stand a now old mid → HasStoppedAtLine held at line st stand now b mid new → Follows held at (Some lines) st a b old new
so_far_stopped held at lines line left stand a now st b old mid new f h = (
  f.front ++ h.outputs,
  record {
    above = f.above;
    left = line ∷ left;
    whole = f.whole;
    stand = stand;
    now = now;
    front = f.front;
    back = h.outputs;
    done = f.done;
    ends = h.stopped;
    list = refl;
  },
  some_both held (λ files. Spelled old mid f.front) (λ files. Written st mid new h.outputs) (λ files. WrittenBehind st old new f.front h.outputs) f.written h.written
      (λ files s t. (mid, s, t)),
)

-- what comes of the lines of a script
pub follows_script : (held : Option Files) (at : List ℕ) (script : Option (List ScriptLine)) (lines : List ScriptLine) (st : Status) (a b : List Key) (old new : Option (List Emission)) → script ≡ Some lines
    → Follows held at (Some lines) st a b old new → Follows held at script st a b old new
follows_script held at script lines st a b old new e f = subst (λ z. Follows held at z st a b old new) (sym e) f

-- what is left behind the first line
pub behind : (line : ScriptLine) (left : List ScriptLine) → take (length (line ∷ left) - 1) (drop 1 (line ∷ left)) ≡ left
behind line left = take_all (length (line ∷ left) - 1) left (omega arith)

pub so_far_next : (held held' : Option Files) (lines left : List ScriptLine) (line d : ScriptLine) (stand : ReplayState) (a now : List Key) (next : ReplayState) (b : List Key) (old mid new : Option (List Emission))
    → 1 ≤ length left → line ≡ get_or left 0 d → held' ≡ held → SoFar held lines left stand a now old mid → WasCarriedOut held' line.order stand now next b mid new → AreSound means next.cache
    → SoFar held lines (take (length left - 1) (drop 1 left)) next a b old new
so_far_next held held' lines [] line d stand a now next b old mid new l e h f w sound = absurd (omega (arith, l))
so_far_next held held' lines (x ∷ left) line d stand a now next b old mid new l e h f w sound =
    subst (λ z. SoFar held lines z next a b old new) (sym (behind x left))
    (so_far_more held lines x left stand a now next b old mid new f
    (subst (λ z. WasCarriedOut held z.order stand now next b mid new) e (subst (λ z. WasCarriedOut z line.order stand now next b mid new) h w)) sound)

pub so_far_halted : (held held' : Option Files) (at : List ℕ) (lines left : List ScriptLine) (line d : ScriptLine) (stand : ReplayState) (a now : List Key) (st : Status) (b : List Key) (old mid new : Option (List Emission))
    → 1 ≤ length left → line ≡ get_or left 0 d → held' ≡ held → SoFar held lines left stand a now old mid → HasStoppedAtLine held' at line st stand now b mid new
    → Follows held at (Some lines) st a b old new
so_far_halted held held' at lines [] line d stand a now st b old mid new l e h f s = absurd (omega (arith, l))
so_far_halted held held' at lines (x ∷ left) line d stand a now st b old mid new l e h f s =
    so_far_stopped held at lines x left stand a now st b old mid new f
    (subst (λ z. HasStoppedAtLine held at z st stand now b mid new) e (subst (λ z. HasStoppedAtLine z at line st stand now b mid new) h s))

none_left : (left : List ScriptLine) → length left < 1 → left ≡ []
none_left [] l = refl
none_left (line ∷ left) l = absurd (omega (arith, l))

pub so_far_ended : (held : Option Files) (at : List ℕ) (lines left : List ScriptLine) (stand : ReplayState) (a now : List Key) (old new : Option (List Emission))
    → length left < 1 → SoFar held lines left stand a now old new → Follows held at (Some lines) status.Done a now old new
so_far_ended held at lines left stand a now old new l f = (
  f.front,
  record {
    above = f.above;
    left = [];
    whole = subst (λ z. lines ≡ f.above ++ z) (none_left left l) f.whole;
    stand = stand;
    now = now;
    front = f.front;
    back = [];
    done = f.done;
    ends = (refl, refl, refl);
    list = sym (append-nil f.front);
  },
  some_both held (λ files. Spelled old new f.front) (λ files. Spelled new new []) (λ files. WrittenBehind status.Done old new f.front []) f.written (nothing_spelled held new new refl)
      (λ files s t. (new, s, t)),
)

pub was_dropped : (held : Option Files) (path : List ℕ) (s next : ReplayState) (a : List Key) (old new : Option (List Emission)) → next ≡ after_edit s path None → new ≡ old
    → WasCarriedOut held (order.Drop path) s a next a old new
was_dropped held path s next a old new n w = record { outputs = []; done = (n, refl, refl); written = nothing_spelled held old new w }

-- the fault of a line that puts was told
pub put_told : (held : Option Files) (at : List ℕ) (number : ℕ) (path from : List ℕ) (s : ReplayState) (st : Status) (a : List Key) (g : Got) (fault : Fault) (old new : Option (List Emission))
    → IfSome held (λ files. g ≡ got_of file_limit (files from)) → from_fault at number from g ≡ Some fault → IsTold fault st old new
    → HasStoppedAtLine held at (script_line number (order.Put path from)) st s a a old new
put_told held at number path from s st a g fault old new got e t =
    let faulty : IsFaulty held at number (order.Put path from) (fault_outputs fault) =
    some_then held (λ files. g ≡ got_of file_limit (files from)) (λ files. IsSomeAnd (order_fault files at number (order.Put path from)) (λ f. fault_outputs fault ≡ fault_outputs f)) got
    (λ files h. subst (λ z. IsSomeAnd z (λ f. fault_outputs fault ≡ fault_outputs f)) (sym e ∙ ap (from_fault at number from) h) refl) in
    elim st as (λ st. IsTold fault st old new → HasStoppedAtLine held at (script_line number (order.Put path from)) st s a a old new) [
      | status.FileFault ↦ λ t. record { outputs = fault_outputs fault; stopped = (faulty, refl); written = always held (λ files. Spelled old new (fault_outputs fault)) (λ files. t) }
      | status.WriteFault ↦ λ t. record { outputs = fault_outputs fault; stopped = (faulty, refl); written = always held (λ files. SpelledCut old new (fault_outputs fault)) (λ files. t) }
      | status.WantOfMemory ↦ λ t. record { outputs = []; stopped = (refl, refl); written = nothing_spelled held old new t }
      | status.Done ↦ λ t. absurd t
      | status.Usage ↦ λ t. absurd t
      | status.ReadFault ↦ λ t. absurd t
    ] t

ran_nothing : (held : Option Files) (f : List (List ℕ)) (o : List (Entry Key Out)) (a : List Key) → Ran (setting means held f o) key.All a a
ran_nothing held f o a = ([], sym (append-nil a), tt, λ w h k c. absurd (omega (arith, c.1)))

begun_nothing : (held : Option Files) (o : ScriptCommand) (s : ReplayState) (a : List Key) → HasBegun held o s a a
begun_nothing held (order.Put path from) s a = refl
begun_nothing held (order.Drop path) s a = refl
begun_nothing held (order.Build job) s a = ran_nothing (over s.edits held) (job_fields job) s.cache a

-- memory was wanting before a line had done anything
pub stopped_early : (held : Option Files) (at : List ℕ) (line : ScriptLine) (s : ReplayState) (a : List Key) (old new : Option (List Emission)) → new ≡ old
    → HasStoppedAtLine held at line status.WantOfMemory s a a old new
stopped_early held at line s a old new e = record {
  outputs = [];
  stopped = (refl, begun_nothing held line.order s a);
  written = nothing_spelled held old new e;
}

-- the world of a build at a stand
here_at : (files : Files) (s : ReplayState) (job : Job) (f : List (List ℕ)) → is_job (job_fields job) ≡ true → f ≡ job_fields job → AreSound means s.cache
    → IsHere (setting means (over s.edits (Some files)) f s.cache) (world_at files s job)
here_at files s job f j e sound = record { told = refl; fields = sym e; world = j; sound = sound }

-- what `build` promises of a build at a stand that came to its end
pub record Ended (held : Option Files) (s : ReplayState) (f : List (List ℕ)) (label : Label) (st : Status) (cache : List (Entry Key Out)) (a b : List Key) (old new : Option (List Emission)) : Type 0 where
  pub built : (w : World) → IsHere (setting means (over s.edits held) f s.cache) w → IsBuilt w s.cache label st old new
  pub left : (w : World) → IsHere (setting means (over s.edits held) f s.cache) w → Leaves w s.cache cache
  pub ran : Ran (setting means (over s.edits held) f s.cache) key.All a b
  pub all : RanAll (setting means (over s.edits held) f s.cache) key.All a b
  pub sound : AreSound means s.cache → AreSound means cache

pub was_built : (held : Option Files) (job : Job) (s : ReplayState) (f : List (List ℕ)) (label : Label) (st : Status) (cache : List (Entry Key Out)) (next : ReplayState) (a b : List Key) (old new : Option (List Emission))
    → is_job (job_fields job) ≡ true → f ≡ job_fields job → label ≡ label_of (s.builds + 1) → AreSound means s.cache → next ≡ after_build s cache
    → Ended held s f label st cache a b old new → WasCarriedOut held (order.Build job) s a next b old new
was_built None job s f label st cache next a b old new j e l sound n x = record {
  outputs = [];
  done = record {
    told = tt;
    ran = same_ran (over s.edits None) f (job_fields job) s.cache s.cache a b e refl x.ran;
    all = same_all (over s.edits None) f (job_fields job) s.cache s.cache a b e refl x.all;
    sound = subst (AreSound means) (sym (ap (λ z. z.cache) n)) (x.sound sound);
    stands = n ∙ ap (after_build s) (sym (ap (λ z. z.cache) n));
  };
  written = tt;
}
was_built (Some files) job s f label st cache next a b old new j e l sound n x =
    let w : World = world_at files s job in
    let h : IsHere (setting means (over s.edits (Some files)) f s.cache) w = here_at files s job f j e sound in
    let t : IsBuilt w s.cache label st old new = x.built w h in
    record {
      outputs = emitted (label_of (s.builds + 1)) (outcome w) t.steps (t.needed - t.steps);
      done = record {
        told = record {
          gives = record { steps = t.steps; needed = t.needed; counted = t.counted; list = refl };
          leaves = subst (Leaves w s.cache) (sym (ap (λ z. z.cache) n)) (x.left w h);
        };
        ran = same_ran (over s.edits (Some files)) f (job_fields job) s.cache s.cache a b e refl x.ran;
        all = same_all (over s.edits (Some files)) f (job_fields job) s.cache s.cache a b e refl x.all;
        sound = subst (AreSound means) (sym (ap (λ z. z.cache) n)) (x.sound sound);
        stands = n ∙ ap (after_build s) (sym (ap (λ z. z.cache) n));
      };
      written = subst (λ z. Spelled old new (emitted z (outcome w) t.steps (t.needed - t.steps))) l t.written;
    }

-- what `build` promises of one that stopped
pub record Halted (held : Option Files) (s : ReplayState) (f : List (List ℕ)) (label : Label) (e : Stop) (a b : List Key) (old new : Option (List Emission)) : Type 0 where
  pub cut : IfWriteFault {A = Built} (Err e) ((w : World) → IsHere (setting means (over s.edits held) f s.cache) w → IsCutShort w s.cache label old new)
  pub unwritten : IfUnwritten {A = Built} (Err e) (new ≡ old)
  pub ran : Ran (setting means (over s.edits held) f s.cache) key.All a b

cut_at : (held : Option Files) (at : List ℕ) (number : ℕ) (job : Job) (s : ReplayState) (f : List (List ℕ)) (label : Label) (a b : List Key) (old new : Option (List Emission))
    → is_job (job_fields job) ≡ true → f ≡ job_fields job → label ≡ label_of (s.builds + 1) → AreSound means s.cache
    → ((w : World) → IsHere (setting means (over s.edits held) f s.cache) w → IsCutShort w s.cache label old new)
    → Ran (setting means (over s.edits held) (job_fields job) s.cache) key.All a b
    → HasStoppedAtLine held at (script_line number (order.Build job)) status.WriteFault s a b old new
cut_at None at number job s f label a b old new j e l sound x r = record { outputs = []; stopped = (tt, r); written = tt }
cut_at (Some files) at number job s f label a b old new j e l sound x r =
    let w : World = world_at files s job in
    let t : IsCutShort w s.cache label old new = x w (here_at files s job f j e sound) in
    record {
      outputs = emitted (label_of (s.builds + 1)) (outcome w) t.steps (t.needed - t.steps);
      stopped = (record { steps = t.steps; needed = t.needed; counted = t.counted; list = refl }, r);
      written = subst (λ z. SpelledCut old new (emitted z (outcome w) t.steps (t.needed - t.steps))) l t.written;
    }

pub was_halted : (held : Option Files) (at : List ℕ) (number : ℕ) (job : Job) (s : ReplayState) (f : List (List ℕ)) (label : Label) (e : Stop) (a b : List Key) (old new : Option (List Emission))
    → is_job (job_fields job) ≡ true → f ≡ job_fields job → label ≡ label_of (s.builds + 1) → AreSound means s.cache → Halted held s f label e a b old new
    → HasStoppedAtLine held at (script_line number (order.Build job)) (stop_status e) s a b old new
was_halted held at number job s f label stop.ReadFault a b old new j q l sound x = record {
  outputs = [];
  stopped = (refl, same_ran (over s.edits held) f (job_fields job) s.cache s.cache a b q refl x.ran);
  written = nothing_spelled held old new x.unwritten;
}
was_halted held at number job s f label stop.WantOfMemory a b old new j q l sound x = record {
  outputs = [];
  stopped = (refl, same_ran (over s.edits held) f (job_fields job) s.cache s.cache a b q refl x.ran);
  written = nothing_spelled held old new x.unwritten;
}
was_halted held at number job s f label stop.WriteFault a b old new j q l sound x =
    cut_at held at number job s f label a b old new j q l sound x.cut (same_ran (over s.edits held) f (job_fields job) s.cache s.cache a b q refl x.ran)

-- a refusal that is handed on
pub stop_as : {A : Type 0} (r : Result A Status) (held : Option Files) (at : List ℕ) (line : ScriptLine) (st : Status) (s : ReplayState) (a b : List Key) (old new : Option (List Emission))
    → IsErrAnd r (λ x. x ≡ st) → HasStoppedAtLine held at line st s a b old new → IfErr r (λ x. HasStoppedAtLine held at line x s a b old new)
stop_as (Ok x) held at line st s a b old new e h = tt
stop_as (Err x) held at line st s a b old new e h = subst (λ z. HasStoppedAtLine held at line z s a b old new) (sym e) h

-- what is said of an order is said of its line
pub line_stopped : {A : Type 0} (r : Result A Status) (held : Option Files) (at : List ℕ) (line : ScriptLine) (o : ScriptCommand) (s : ReplayState) (a b : List Key) (old new : Option (List Emission))
    → line.order ≡ o → IfErr r (λ x. HasStoppedAtLine held at (script_line line.number o) x s a b old new) → IfErr r (λ x. HasStoppedAtLine held at line x s a b old new)
line_stopped r held at line o s a b old new e h = subst (λ z. IfErr r (λ x. HasStoppedAtLine held at (script_line line.number z) x s a b old new)) (sym e) h

pub line_dropped : (held : Option Files) (o : ScriptCommand) (path : List ℕ) (s next : ReplayState) (a : List Key) (old : Option (List Emission)) → o ≡ order.Drop path
    → next ≡ after_edit s path None → WasCarriedOut held o s a next a old old
line_dropped held o path s next a old e n = subst (λ z. WasCarriedOut held z s a next a old old) (sym e) (was_dropped held path s next a old old n refl)

-- an order adds one build at most
pub one_build_more : (held : Option Files) (o : ScriptCommand) (s : ReplayState) (a : List Key) (next : ReplayState) (b : List Key) (old new : Option (List Emission)) → WasCarriedOut held o s a next b old new
    → next.builds ≤ s.builds + 1
one_build_more held (order.Put path from) s a next b old new w = subst (λ z. z ≤ s.builds + 1) (sym (ap (λ z. z.builds) w.done.0.2)) (omega arith)
one_build_more held (order.Drop path) s a next b old new w = subst (λ z. z ≤ s.builds + 1) (sym (ap (λ z. z.builds) w.done.0)) (omega arith)
one_build_more held (order.Build job) s a next b old new w = subst (λ z. z ≤ s.builds + 1) (sym (ap (λ z. z.builds) w.done.stands)) (omega arith)

-- fewer builds than lines are behind a line
pub few_builds : (held : Option Files) (o : ScriptCommand) (left : List ScriptLine) (s : ReplayState) (a : List Key) (next : ReplayState) (b : List Key) (old new : Option (List Emission))
    → 1 ≤ length left → s.builds + length left ≤ 1000 → WasCarriedOut held o s a next b old new → next.builds + length (take (length left - 1) (drop 1 left)) ≤ 1000
few_builds held o [] s a next b old new l f w = absurd (omega (arith, l))
few_builds held o (line ∷ left) s a next b old new l f w =
    let more : next.builds ≤ s.builds + 1 = one_build_more held o s a next b old new w in
    subst (λ z. next.builds + length z ≤ 1000) (sym (behind line left)) (omega (arith, f, more))

pub none_built : (s : ReplayState) (lines : List ScriptLine) → s ≡ start → length lines ≤ 1000 → s.builds + length lines ≤ 1000
none_built s lines e l = subst (λ z. z.builds + length lines ≤ 1000) (sym e) (omega (arith, l))
