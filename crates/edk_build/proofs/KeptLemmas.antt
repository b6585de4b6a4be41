-- From what was brought, written and stored to what a build has done that keeps its cache.
use Rattle.std.proofs.Common.{◌≡◌, ◌⊎◌, inl, inr, refl, sym, ap, ◌∙◌, ℕ, List, [], ◌∷◌, ◌++◌, append-nil, arith, Option, None, Some, Result, Ok, Err, subst, Bool, true}
use Rattle.std.specs.Prelude.{IfOk, IsOk, OnOk, nat_le, ◌≤◌, ◌<◌}
use Rattle.std.proofs.lemmas.Bool.{leb-true}
use Rattle.std.specs.Option.{IfSome}
use Rattle.build_base.proofs.OptionLemmas.{some_then}
use Rattle.build_base.proofs.SpellingLemmas.{SpellsCut-append, SpellsCut-more}
use Rattle.build_base.specs.Keeping.{Stores}
use Rattle.build_base.specs.Outside.{Emission, Files, HasFailed}
use Rattle.build_base.specs.Spelling.{Output, text, Spells, SpellsCut, Spelled, SpelledCut}
use Rattle.build_base.specs.World.{World}
use Rattle.build_base.specs.declared.fault.Fault.{Fault}
use Rattle.build_base.specs.declared.outside.KeeperFailed.TheVariants.{Failed}
use Rattle.build_base.specs.declared.outside.Target.TheVariants.{Out as ToOut}
use Rattle.build_rules.proofs.AdoptLemmas.{adopted_sound, all_stay}
use Rattle.build_rules.specs.Adopting.{AreOlder, adopted, by_older}
use Rattle.job_fields.specs.Readings.{is_job}
use Rattle.build_rules.specs.Rules.{value_in}
use Rattle.step_answers.specs.Readers.{EdkStages}
use Rattle.build_stages.specs.Bounds.{both_hold}
use Rattle.build_stages.specs.Stages.{meaning_of}
use Rattle.job_fields.specs.Fields.{job_fields}
use Rattle.job_fields.specs.declared.job.Job.{Job}
use Rattle.step_cache.proofs.CacheLemmas.{same_cache}
use Rattle.step_cache.proofs.TextLemmas.{cut_text, same_edition}
use Rattle.step_cache.specs.CacheText.{IsCacheText, IsTextOf, is_edition, newest}
use Rattle.step_engine.specs.Build.{setting, IsEntryOf, IsHere}
use Rattle.step_engine.specs.Edits.{over}
use Rattle.step_engine.specs.Entries.{AreSound}
use Rattle.step_engine.specs.declared.edits.Edit.{Edit}
use Rattle.step_engine.specs.declared.talk.Entry.{Entry}
use Rattle.step_engine.specs.declared.talk.Outcome.{Outcome}
use Rattle.step_engine.specs.declared.talk.Outcome.TheVariants.{Good, Bad}
use Rattle.step_pack.specs.Keys.{key_cmp}
use Rattle.step_pack.specs.declared.key.Key.{Key}
use Rattle.step_pack.specs.declared.key.Key.TheVariants as key
use Rattle.step_pack.specs.declared.out.Out.{Out}
use Rattle.edk_build.proofs.BuildLemmas.{built, cut_short}
use Rattle.edk_build.proofs.RunLemmas.{told_over}
use Rattle.edk_build.specs.Building.{means, IsBrought, IsBuilt, IsCutShort, IsOwn, Leaves, result_status}
use Rattle.edk_build.specs.Emitting.{emitted, outputs_of, status_of, summary}
use Rattle.edk_build.specs.FilePair.{FilePair}
use Rattle.edk_build.specs.Kept.{HasText, IsOfText, IsSoundKept, OfKept, StandsFor, StaysSound}
use Rattle.edk_build.specs.KeptBuild.{Told, told, AsMade, Makes, WroteAll, HasBuilt, EndsAtFailure, HasEnded, HasStopped, FollowsWorld}
use Rattle.edk_build.specs.Outcome.{outcome, files_by}
use Rattle.edk_build.specs.Run.{IsComplete, plain, world_of}
use Rattle.edk_build.specs.Statuses.{OnEnd, OnReadFault, OnUsage, OnWriteFault}
use Rattle.edk_build.specs.Stops.{IfReadFault, IfUnwritten, IfWriteFault, stop_status}
use Rattle.edk_build.specs.declared.status.Status.{Status}
use Rattle.edk_build.specs.declared.status.Status.TheVariants.{Done, FileFault, Usage, ReadFault, WriteFault, WantOfMemory}
use Rattle.edk_build.specs.declared.stop.Stop.{Stop}
use Rattle.edk_build.specs.declared.stop.Stop.TheVariants as stop

same_status : (value : Key → Outcome Out) (given : Outcome Out) → status_of (files_by value given) ≡ result_status given
same_status value (Good given) = refl
same_status value (Bad fault) = refl

-- what is made is what a build emits whose steps have these values
all_emitted : (w : World) (cache left : List (Entry Key Out)) (given : Outcome Out) (steps reused : ℕ) (outputs : List Output) (line stored : List ℕ)
    → Makes given left steps reused outputs line stored → IsBrought w cache given left steps reused
    → outputs ++ text ToOut line ∷ [] ≡ emitted plain (files_by (value_in w) given) steps reused
all_emitted w cache left given steps reused outputs line stored m b =
    ap (λ z. z ++ text ToOut line ∷ []) (m.outputs_are (value_in w) b.agrees)
    ∙ ap (λ z. outputs_of plain (files_by (value_in w) given) ++ text ToOut z ∷ []) (m.line_is ∙ ap (λ s. summary plain s steps reused) (sym (same_status (value_in w) given)))

keeps_all : (old new : Option (Option (List ℕ))) (bytes : List ℕ) → Stores old new bytes (Ok tt) → IfSome new (λ kept. kept ≡ Some bytes)
keeps_all old None bytes s = tt
keeps_all old (Some new) bytes s = s

ended : (held : Option Files) (job : Job) (cache left : List (Entry Key Out)) (given : Outcome Out) (steps reused : ℕ) (status : Status) (old new : Told)
    → AsMade given left steps reused (λ outputs line stored. WroteAll outputs line stored old new) → status ≡ result_status given → IsEntryOf key.All given left
    → (AreSound means cache → AreSound means left) → IfSome held (λ files. AreSound means cache → IsBrought (world_of files job) cache given left steps reused)
    → HasEnded held job cache status old new
ended held job cache left given steps reused status old new m e entry sound b = record {
  left = left;
  stored = m.2;
  stored_is = m.3.stored_is;
  kept = keeps_all old.kept new.kept m.2 m.4.kept;
  own = (given, entry, e);
  wrote = (given, steps, reused, entry, (m.0, m.1, m.2, m.3, (e, m.4)));
  sound = sound;
  built =
      some_then held (λ files. AreSound means cache → IsBrought (world_of files job) cache given left steps reused)
      (λ files. AreSound means cache → IsBuilt (world_of files job) cache plain status old.written new.written) b
      (λ files f s.
      let w : World = world_of files job in
      built w cache given left steps reused plain status old.written new.written (f s) (e ∙ sym (same_status (value_in w) given))
      (subst (λ z. Spelled old.written new.written z) (all_emitted w cache left given steps reused m.0 m.1 m.2 m.3 (f s)) m.4.written));
  leaves =
      some_then held (λ files. AreSound means cache → IsBrought (world_of files job) cache given left steps reused)
      (λ files. AreSound means cache → Leaves (world_of files job) cache left) b (λ files f s. (f s).leaves);
}

pub ended_by : (r : Result Status Stop) (held : Option Files) (job : Job) (cache left : List (Entry Key Out)) (given : Outcome Out) (steps reused : ℕ) (old new : Told)
    → OnOk r (AsMade given left steps reused (λ outputs line stored. WroteAll outputs line stored old new)) → IfOk r (λ s. s ≡ result_status given) → IsEntryOf key.All given left
    → (AreSound means cache → AreSound means left) → IfSome held (λ files. AreSound means cache → IsBrought (world_of files job) cache given left steps reused)
    → IfOk r (λ s. HasEnded held job cache s old new)
ended_by (Ok s) held job cache left given steps reused old new m e entry sound b = ended held job cache left given steps reused s old new m e entry sound b
ended_by (Err e) held job cache left given steps reused old new m f entry sound b = tt

-- all of the first outputs are a cut of more
spells_cut : (xs ys : List Output) (es : List Emission) → Spells xs es → SpellsCut (xs ++ ys) es
spells_cut [] [] es s = s
spells_cut [] (y ∷ ys) es s = inl s
spells_cut (x ∷ xs) ys es s = inr (inr (s.0, s.1, s.2, s.3, spells_cut xs ys s.1 s.4))

failed_cut : (outputs : List Output) (line stored : List ℕ) (old new : Told) → EndsAtFailure outputs line stored old new
    → SpelledCut old.written new.written (outputs ++ text ToOut line ∷ [])
failed_cut outputs line stored old new (inl f) =
    (f.written.0, SpellsCut-more outputs (text ToOut line ∷ []) f.written.0 f.written.1, f.written.2)
failed_cut outputs line stored old new (inr (inl f)) =
    (f.written.0, spells_cut outputs (text ToOut line ∷ []) f.written.0 f.written.1, f.written.2)
failed_cut outputs line stored old new (inr (inr f)) =
    let w = f.written in (
      w.0 ++ (ToOut, w.1) ∷ [],
      SpellsCut-append outputs (text ToOut line ∷ []) w.0 ((ToOut, w.1) ∷ []) w.3 (inr (inl (text ToOut w.1, (refl, (w.2, w.4)), refl))),
      w.5,
    )

comes : (w : World) (cache left : List (Entry Key Out)) (given : Outcome Out) (steps reused : ℕ) (outputs : List Output) (line stored : List ℕ)
    → Makes given left steps reused outputs line stored → IsBrought w cache given left steps reused → FollowsWorld w cache outputs line left
comes w cache left given steps reused outputs line stored m b = record {
  steps = steps;
  needed = b.needed;
  counted = b.counted;
  outputs_are = m.outputs_are (value_in w) b.agrees ∙ ap (λ r. outputs_of plain (files_by (value_in w) r)) b.value;
  line_is =
      m.line_is ∙ ap (λ s. summary plain s steps reused) (sym (same_status (value_in w) given) ∙ ap (λ r. status_of (files_by (value_in w) r)) b.value)
      ∙ ap (λ n. summary plain (status_of (outcome w)) steps n) b.reuses;
  leaves = b.leaves;
}

stopped : (held : Option Files) (job : Job) (cache left : List (Entry Key Out)) (given : Outcome Out) (steps reused : ℕ) (old new : Told)
    → AsMade given left steps reused (λ outputs line stored. EndsAtFailure outputs line stored old new) → IsEntryOf key.All given left
    → (AreSound means cache → AreSound means left) → IfSome held (λ files. AreSound means cache → IsBrought (world_of files job) cache given left steps reused)
    → HasStopped held job cache old new
stopped held job cache left given steps reused old new m entry sound b = record {
  outputs = m.0;
  line = m.1;
  left = left;
  stored = m.2;
  stored_is = m.3.stored_is;
  failed = m.4;
  made = (given, steps, reused, entry, m);
  sound = sound;
  comes =
      some_then held (λ files. AreSound means cache → IsBrought (world_of files job) cache given left steps reused)
      (λ files. AreSound means cache → FollowsWorld (world_of files job) cache m.0 m.1 left) b
      (λ files f s. comes (world_of files job) cache left given steps reused m.0 m.1 m.2 m.3 (f s));
  cut =
      some_then held (λ files. AreSound means cache → IsBrought (world_of files job) cache given left steps reused)
      (λ files. AreSound means cache → IsCutShort (world_of files job) cache plain old.written new.written) b
      (λ files f s.
      let w : World = world_of files job in
      cut_short w cache given left steps reused plain old.written new.written (f s)
      (subst (λ z. SpelledCut old.written new.written z) (all_emitted w cache left given steps reused m.0 m.1 m.2 m.3 (f s)) (failed_cut m.0 m.1 m.2 old new m.4)));
}

pub stopped_by : (r : Result Status Stop) (held : Option Files) (job : Job) (cache left : List (Entry Key Out)) (given : Outcome Out) (steps reused : ℕ) (old new : Told)
    → IfWriteFault r (AsMade given left steps reused (λ outputs line stored. EndsAtFailure outputs line stored old new)) → IsEntryOf key.All given left
    → (AreSound means cache → AreSound means left) → IfSome held (λ files. AreSound means cache → IsBrought (world_of files job) cache given left steps reused)
    → IfWriteFault r (HasStopped held job cache old new)
stopped_by (Ok s) held job cache left given steps reused old new m entry sound b = tt
stopped_by (Err stop.ReadFault) held job cache left given steps reused old new m entry sound b = tt
stopped_by (Err stop.WantOfMemory) held job cache left given steps reused old new m entry sound b = tt
stopped_by (Err stop.WriteFault) held job cache left given steps reused old new m entry sound b = stopped held job cache left given steps reused old new m entry sound b

-- where there are no edits, and the fields are those of the job
pub told_brought : (held : Option Files) (es : List Edit) (job : Job) (f : List (List ℕ)) (cache left : List (Entry Key Out)) (given : Outcome Out) (steps reused : ℕ)
    → is_job (job_fields job) ≡ true → es ≡ [] → f ≡ job_fields job
    → ((w : World) → IsHere (setting means (over es held) f cache) w → IsBrought w cache given left steps reused)
    → IfSome held (λ files. AreSound means cache → IsBrought (world_of files job) cache given left steps reused)
told_brought None es job f cache left given steps reused j n e b = tt
told_brought (Some files) es job f cache left given steps reused j n e b = λ s.
    b (world_of files job) (record { told = told_over (Some files) es n; fields = sym e; world = j; sound = s })

no_fault : (r : Result (List FilePair) Fault) → IsOk r → FileFault ≡ status_of r → ⊥
no_fault (Ok files) o e = absurd cc
no_fault (Err fault) o e = absurd cc

-- a load changes neither what is kept nor the count
pub built_loaded : (status : Status) (held : Option Files) (job : Job) (cache : List (Entry Key Out)) (written : Option (List Emission)) (kept kept' : Option (Option (List ℕ))) (sink count count' : ℕ) (new : Told)
    → kept' ≡ kept → count' ≡ count → IfSome kept (λ there. StandsFor there cache)
    → (IfSome kept' (λ there. StandsFor there cache) → HasBuilt held job status (told written kept' sink count') new) → HasBuilt held job status (told written kept sink count) new
built_loaded status held job cache written kept kept' sink count count' new e f stands b =
    subst (λ n. HasBuilt held job status (told written kept sink n) new) f
    (subst (λ k. HasBuilt held job status (told written k sink count') new) e (b (subst (λ k. IfSome k (λ there. StandsFor there cache)) (sym e) stands)))

-- a build that came to its end is done, or told a fault
own_ends : (status : Status) (left : List (Entry Key Out)) (P : Status → Type 0) → IsOwn status left → P Done → P FileFault → P status
own_ends status left P (Good given, entry, e) done fault = subst P (sym e) done
own_ends status left P (Bad given, entry, e) done fault = subst P (sym e) fault

pub end_built : (status : Status) (held : Option Files) (job : Job) (cache : List (Entry Key Out)) (old new : Told)
    → IfSome old.kept (λ there. StandsFor there cache) → HasEnded held job cache status old new → new.sink ≡ old.sink → new.keeper ≡ old.keeper → HasBuilt held job status old new
end_built status held job cache old new stands h s k =
    own_ends status h.left (λ z. HasEnded held job cache z old new → HasBuilt held job z old new) h.own
    (λ h. record { ended = (cache, stands, h); stopped = tt; kept = tt; unwritten = tt; no_usage = tt; sink_count = s; keeper_count = k; write_fault = tt })
    (λ h. record { ended = (cache, stands, h); stopped = tt; kept = tt; unwritten = tt; no_usage = tt; sink_count = s; keeper_count = k; write_fault = tt }) h

pub end_reads : (status : Status) (left : List (Entry Key Out)) (P : Type 0) → IsOwn status left → OnReadFault status P
end_reads status left P own = own_ends status left (λ z. OnReadFault z P) own tt tt

stop_built : (stop : Stop) (held : Option Files) (job : Job) (cache : List (Entry Key Out)) (old new : Told)
    → IfSome old.kept (λ there. StandsFor there cache) → IfWriteFault {A = Status} (Err stop) (HasStopped held job cache old new)
    → IfUnwritten {A = Status} (Err stop) (new.kept ≡ old.kept) → IfUnwritten {A = Status} (Err stop) (new.written ≡ old.written)
    → IfWriteFault {A = Status} (Err stop) (HasFailed old.sink new.sink ⊎ HasFailed old.keeper new.keeper) → HasBuilt held job (stop_status stop) old new
stop_built stop.ReadFault held job cache old new stands h kept written rose = record { ended = tt; stopped = tt; kept = kept; unwritten = written; no_usage = tt; sink_count = tt; keeper_count = tt; write_fault = tt }
stop_built stop.WantOfMemory held job cache old new stands h kept written rose = record { ended = tt; stopped = tt; kept = kept; unwritten = written; no_usage = tt; sink_count = tt; keeper_count = tt; write_fault = tt }
stop_built stop.WriteFault held job cache old new stands h kept written rose =
    record { ended = tt; stopped = (cache, stands, h); kept = tt; unwritten = tt; no_usage = tt; sink_count = tt; keeper_count = tt; write_fault = rose }

pub built_stopped : (status : Status) (stop : Stop) (held : Option Files) (job : Job) (cache : List (Entry Key Out)) (old new : Told) → status ≡ stop_status stop
    → IfSome old.kept (λ there. StandsFor there cache) → IfWriteFault {A = Status} (Err stop) (HasStopped held job cache old new)
    → IfUnwritten {A = Status} (Err stop) (new.kept ≡ old.kept) → IfUnwritten {A = Status} (Err stop) (new.written ≡ old.written)
    → IfWriteFault {A = Status} (Err stop) (HasFailed old.sink new.sink ⊎ HasFailed old.keeper new.keeper) → HasBuilt held job status old new
built_stopped status stop held job cache old new e stands h kept written rose =
    subst (λ s. HasBuilt held job s old new) (sym e) (stop_built stop held job cache old new stands h kept written rose)

stop_reads : (stop : Stop) (P Q : Type 0) → IfReadFault {A = Status} (Err stop) P → OnReadFault (stop_status stop) (P ⊎ Q)
stop_reads stop.ReadFault P Q r = inl r
stop_reads stop.WriteFault P Q r = tt
stop_reads stop.WantOfMemory P Q r = tt

pub stopped_reads : (status : Status) (stop : Stop) (P Q : Type 0) → status ≡ stop_status stop → IfReadFault {A = Status} (Err stop) P → OnReadFault status (P ⊎ Q)
stopped_reads status stop P Q e r = subst (λ s. OnReadFault s (P ⊎ Q)) (sym e) (stop_reads stop P Q r)

pub on_ok : {A E : Type 0} (r : Result A E) (P : Type 0) → P → OnOk r P
on_ok (Ok x) P p = p
on_ok (Err x) P p = tt

completes_at : (status : Status) (held : Option Files) (job : Job) (kept : Option (Option (List ℕ))) (old new : Told) (T K S : Type 0)
    → OnEnd status (OfKept kept (λ cache. HasEnded held job cache status old new)) → OnReadFault status (T ⊎ K) → OnWriteFault status (S ⊎ K) → OnUsage status ⊥
    → IfSome held (λ files. IfSome kept (λ there. IsSoundKept there → IsComplete (world_of files job) (T ⊎ K) S status))
completes_at status None job kept old new T K S ends read write usage = tt
completes_at status (Some files) job None old new T K S ends read write usage = tt
completes_at Done (Some files) job (Some there) old new T K S ends read write usage = λ s o t f. inl refl
completes_at FileFault (Some files) job (Some there) old new T K S ends read write usage = λ s o t f.
    absurd (no_fault (outcome (world_of files job)) o ((ends.2.built (s ends.0 ends.1)).ends))
completes_at Usage (Some files) job (Some there) old new T K S ends read write usage = absurd usage
completes_at ReadFault (Some files) job (Some there) old new T K S ends read write usage = λ s o t f. absurd (t read)
completes_at WriteFault (Some files) job (Some there) old new T K S ends read (inl failed) usage = λ s o t f. absurd (f failed)
completes_at WriteFault (Some files) job (Some there) old new T K S ends read (inr failed) usage = λ s o t f. absurd (t (inr failed))
completes_at WantOfMemory (Some files) job (Some there) old new T K S ends read write usage = λ s o t f. inr refl

-- where no object failed, and what is kept is sound
pub completes : (status : Status) (held : Option Files) (job : Job) (old new : Told) (T : Type 0) → HasBuilt held job status old new → OnReadFault status (T ⊎ HasFailed old.keeper new.keeper)
    → IfSome held (λ files. IfSome old.kept (λ there. IsSoundKept there → IsComplete (world_of files job) (T ⊎ HasFailed old.keeper new.keeper) (HasFailed old.sink new.sink) status))
completes status held job old new T b read =
    completes_at status held job old.kept old new T (HasFailed old.keeper new.keeper) (HasFailed old.sink new.sink) b.ended read b.write_fault b.no_usage

pub empty_sound : AreSound means []
empty_sound k x h = absurd (omega arith)

-- editions that are read
pub least_edition : (edition : ℕ) → is_edition edition ≡ true → 2 ≤ edition
least_edition edition e = leb-true 2 edition (both_hold (nat_le 2 edition) (nat_le edition 5) e).0

pub most_edition : (edition : ℕ) → is_edition edition ≡ true → edition ≤ 5
most_edition edition e = leb-true edition 5 (both_hold (nat_le 2 edition) (nat_le edition 5) e).1

pub stands_for : (bytes : List ℕ) (edition : ℕ) (entries cache : List (Entry Key Out)) → IsTextOf edition entries bytes → cache ≡ adopted edition entries → StandsFor (Some bytes) cache
stands_for bytes edition entries cache t e = inl (record { edition = edition; entries = entries; text = t; holds = e })

pub newest_text : (bytes : List ℕ) (edition : ℕ) (entries cache : List (Entry Key Out)) → IsTextOf edition entries bytes → (edition ≡ newest) × (cache ≡ entries) → IsCacheText cache bytes
newest_text bytes edition entries cache t e =
    subst (λ (c : List (Entry Key Out)). IsTextOf newest c bytes) (sym e.1) (subst (λ (n : ℕ). IsTextOf n entries bytes) e.0 t)

-- bytes that are a cache's text stand for what holds of it
pub of_text : (edition : ℕ) (left cache : List (Entry Key Out)) (bytes : List ℕ) → IsTextOf edition left bytes → IsOfText bytes cache → cache ≡ adopted edition left
of_text edition left cache bytes t h =
    h.holds ∙ ap (λ (n : ℕ). adopted n h.entries) (same_edition h.edition edition h.entries left bytes h.text t)
    ∙ ap (adopted edition) (same_cache h.edition edition h.entries left bytes h.text t)

-- a prefix of a text is the whole or no text
prefix_sound : (edition : ℕ) (left : List (Entry Key Out)) (front rest : List ℕ) → IsTextOf edition left (front ++ rest) → AreSound means (adopted edition left) → IsSoundKept (Some front)
prefix_sound edition left front rest t s cache (inl h) =
    let e : front ++ rest ≡ front = ap (λ z. front ++ z) (cut_text h.edition edition h.entries left front rest h.text t) ∙ append-nil front in
    subst (AreSound means) (sym (of_text edition left cache front (subst (λ z. IsTextOf edition left z) e t) h)) s
prefix_sound edition left front rest t s cache (inr h) = subst (AreSound means) (sym h.1) empty_sound

-- and of the text of a sound cache
pub sound_prefix : (left : List (Entry Key Out)) (front rest : List ℕ) → IsCacheText left (front ++ rest) → AreSound means left → IsSoundKept (Some front)
sound_prefix left front rest t s = prefix_sound newest left front rest t (subst (AreSound means) (sym (all_stay left)) s)

-- and of what a build of an older edition left
pub older_prefix : (edition : ℕ) (older : Key → EdkStages) (cache : List (Entry Key Out)) (front rest : List ℕ) → edition < 5 → IsTextOf edition cache (front ++ rest)
    → AreOlder edition older → AreSound (meaning_of key_cmp (by_older older)) cache → IsSoundKept (Some front)
older_prefix edition older cache front rest few t are s = prefix_sound edition cache front rest t (adopted_sound edition older are few cache s)

-- the text of a sound cache stands for no other
sound_text : (left : List (Entry Key Out)) (stored : List ℕ) → IsCacheText left stored → AreSound means left → IsSoundKept (Some stored)
sound_text left stored t s = sound_prefix left stored [] (subst (λ z. IsCacheText left z) (sym (append-nil stored)) t) s

pub same_sound : (old new : Option (Option (List ℕ))) → new ≡ old → StaysSound old new
same_sound None new e = tt
same_sound (Some before) None e = tt
same_sound (Some before) (Some now) e = λ s. let same : before ≡ now = cc in subst IsSoundKept same s

stored_sound : (old new : Option (Option (List ℕ))) (cache left : List (Entry Key Out)) (stored : List ℕ) → IfSome old (λ kept. StandsFor kept cache) → IsCacheText left stored
    → (AreSound means cache → AreSound means left) → IfSome new (λ kept. kept ≡ Some stored) → StaysSound old new
stored_sound None new cache left stored stands t s e = tt
stored_sound (Some before) None cache left stored stands t s e = tt
stored_sound (Some before) (Some now) cache left stored stands t s e = λ b. subst IsSoundKept (sym e) (sound_text left stored t (s (b cache stands)))

left_sound : (old new : Option (Option (List ℕ))) (cache left : List (Entry Key Out)) (stored : List ℕ) → IfSome old (λ kept. StandsFor kept cache) → IsCacheText left stored
    → (AreSound means cache → AreSound means left) → Stores old new stored (Err Failed) → StaysSound old new
left_sound None new cache left stored stands t s f = tt
left_sound (Some before) None cache left stored stands t s f = tt
left_sound (Some before) (Some now) cache left stored stands t s (was, is, inl e) = λ b.
    let same : was ≡ before = cc in subst IsSoundKept (sym (e ∙ same)) b
left_sound (Some before) (Some now) cache left stored stands t s (was, is, inr (inl e)) = λ b.
    subst IsSoundKept (sym e) (λ c n. subst (AreSound means) (sym n) empty_sound)
left_sound (Some before) (Some now) cache left stored stands t s (was, is, inr (inr p)) = λ b.
    subst IsSoundKept (sym p.3) (sound_prefix left p.0 p.1 (subst (λ z. IsCacheText left z) p.2 t) (s (b cache stands)))

failed_sound : (old new : Told) (cache left : List (Entry Key Out)) (outputs : List Output) (line stored : List ℕ) → IfSome old.kept (λ kept. StandsFor kept cache) → IsCacheText left stored
    → (AreSound means cache → AreSound means left) → EndsAtFailure outputs line stored old new → StaysSound old.kept new.kept
failed_sound old new cache left outputs line stored stands t s (inl f) = same_sound old.kept new.kept f.kept
failed_sound old new cache left outputs line stored stands t s (inr (inl f)) = left_sound old.kept new.kept cache left stored stands t s f.kept
failed_sound old new cache left outputs line stored stands t s (inr (inr f)) =
    stored_sound old.kept new.kept cache left stored stands t s (keeps_all old.kept new.kept stored f.kept)

ended_sound : (held : Option Files) (job : Job) (status : Status) (old new : Told) → OfKept old.kept (λ cache. HasEnded held job cache status old new) → StaysSound old.kept new.kept
ended_sound held job status old new e = stored_sound old.kept new.kept e.0 e.2.left e.2.stored e.1 e.2.stored_is e.2.sound e.2.kept

-- soundness outlives each build, however it ends
pub stays : (status : Status) (held : Option Files) (job : Job) (old new : Told) → HasBuilt held job status old new → StaysSound old.kept new.kept
stays Done held job old new b = ended_sound held job Done old new b.ended
stays FileFault held job old new b = ended_sound held job FileFault old new b.ended
stays Usage held job old new b = absurd b.no_usage
stays ReadFault held job old new b = same_sound old.kept new.kept b.kept
stays WantOfMemory held job old new b = same_sound old.kept new.kept b.kept
stays WriteFault held job old new b =
    let stops = b.stopped in
    failed_sound old new stops.0 stops.2.left stops.2.outputs stops.2.line stops.2.stored stops.1 stops.2.stored_is stops.2.sound stops.2.failed

-- a load changes nothing of what is kept
pub text_still : (kept kept' : Option (Option (List ℕ))) (cache : List (Entry Key Out)) (is_text : Bool) → kept' ≡ kept → (is_text ≡ true → HasText kept cache)
    → is_text ≡ true → HasText kept' cache
text_still kept kept' cache is_text e given h = subst (λ (k : Option (Option (List ℕ))). HasText k cache) (sym e) (given h)

-- the cache that is left is the one whose text is kept
pub text_left : (kept : Option (Option (List ℕ))) (old new : List (Entry Key Out)) (is_text unchanged keeps : Bool) → (keeps ≡ true → (is_text ≡ true) × (unchanged ≡ true))
    → (unchanged ≡ true → new ≡ old) → (is_text ≡ true → HasText kept old) → keeps ≡ true → HasText kept new
text_left kept old new is_text unchanged keeps both same given h = subst (HasText kept) (sym (same (both h).1)) (given (both h).0)
