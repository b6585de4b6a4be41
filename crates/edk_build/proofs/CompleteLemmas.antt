-- Where no object failed and no line of a script has a fault, a replay is done, or memory was wanting.
use Rattle.std.proofs.Common.{◌≡◌, ◌⊎◌, inl, inr, refl, ℕ, ◌++◌, List, [], ◌∷◌, Option, Some, None, Contains, subst, sym, arith}
use Rattle.std.proofs.lemmas.List.Elements.{Contains-append_right}
use Rattle.std.specs.Option.{IfSome, IsSomeAnd}
use Rattle.build_base.specs.Outside.{Files, Emission, HasFailed}
use Rattle.build_base.specs.declared.outside.Got.{Got}
use Rattle.build_base.specs.declared.outside.Got.TheVariants.{File, Absent, TooLong}
use Rattle.build_base.specs.Spelling.{Output}
use Rattle.step_pack.specs.declared.key.Key.{Key}
use Rattle.edk_build.specs.Commands.{IfReplay}
use Rattle.edk_build.specs.History.{fault_outputs, EndsAt, Follows, ReplayEnds, IsReplayed, script_in, HasNoFault, IsReplayComplete}
use Rattle.edk_build.specs.Script.{script_of}
use Rattle.edk_build.specs.Statuses.{Causes}
use Rattle.edk_build.specs.declared.command.Command.{Command}
use Rattle.edk_build.specs.declared.command.Command.TheVariants.{Replay}
use Rattle.edk_build.specs.declared.script.ScriptLine.{ScriptLine}
use Rattle.edk_build.specs.declared.replay_state.ReplayState.{ReplayState}
use Rattle.edk_build.specs.declared.status.Status.{Status}
use Rattle.edk_build.specs.declared.status.Status.TheVariants as answer

always : {A : Type 0} (x : Option A) (P : A → Type 0) → ((y : A) → P y) → IfSome x P
always None P f = tt
always (Some y) P f = f y

-- what is wanted of the lines
abbrev AreWell : Files → List ℕ → Type 0 → Type 0 → Status → List ScriptLine → Type 0
AreWell files at tree_failed sink_failed st lines =
    HasNoFault files at lines → (tree_failed → ⊥) → (sink_failed → ⊥) → (st ≡ answer.Done) ⊎ (st ≡ answer.WantOfMemory)

-- a line whose fault ends the replay has one
ended_faulty : (files : Files) (at : List ℕ) (lines above left : List ScriptLine) (s : ReplayState) (a : List Key) (outputs : List Output) (b : List Key)
    → lines ≡ above ++ left → HasNoFault files at lines → EndsAt (Some files) at left answer.FileFault s a outputs b → ⊥
ended_faulty files at lines above [] s a outputs b w n x = let wrong : answer.FileFault ≡ answer.Done = x.0 in absurd cc
ended_faulty files at lines above (line ∷ left) s a outputs b w n x =
    let there : Contains lines line = subst (λ z. Contains z line) (sym w) (Contains-append_right above (line ∷ left) line (0, omega arith, refl)) in
    subst (λ z. IsSomeAnd z (λ fault. outputs ≡ fault_outputs fault)) (n line there) x.0

ended_misspelt : (held : Option Files) (at : List ℕ) (left : List ScriptLine) (s : ReplayState) (a : List Key) (outputs : List Output) (b : List Key)
    → EndsAt held at left answer.Usage s a outputs b → ⊥
ended_misspelt held at [] s a outputs b x = let wrong : answer.Usage ≡ answer.Done = x.0 in absurd cc
ended_misspelt held at (line ∷ left) s a outputs b x = x

follows_faulty : (files : Files) (at : List ℕ) (script : Option (List ScriptLine)) (a b : List Key) (old new : Option (List Emission)) (T F : Type 0)
    → Follows (Some files) at script answer.FileFault a b old new → IfSome script (AreWell files at T F answer.FileFault)
follows_faulty files at None a b old new T F x = tt
follows_faulty files at (Some lines) a b old new T F x = λ n t f.
    let h = x.1 in
    absurd (ended_faulty files at lines h.above h.left h.stand h.now h.back b h.whole n h.ends)

follows_misspelt : (files : Files) (at : List ℕ) (script : Option (List ScriptLine)) (a b : List Key) (old new : Option (List Emission)) (T F : Type 0)
    → Follows (Some files) at script answer.Usage a b old new → IfSome script (AreWell files at T F answer.Usage)
follows_misspelt files at None a b old new T F x = tt
follows_misspelt files at (Some lines) a b old new T F x = λ n t f.
    let h = x.1 in
    absurd (ended_misspelt (Some files) at h.left h.stand h.now h.back b h.ends)

comes_faulty : (files : Files) (at : List ℕ) (g : Got) (a b : List Key) (old new : Option (List Emission)) (T F : Type 0)
    → ReplayEnds (Some files) at g answer.FileFault a b old new → IfSome (script_in g) (AreWell files at T F answer.FileFault)
comes_faulty files at (File bytes) a b old new T F x = follows_faulty files at (script_of bytes) a b old new T F x
comes_faulty files at Absent a b old new T F x = tt
comes_faulty files at TooLong a b old new T F x = tt

comes_misspelt : (files : Files) (at : List ℕ) (g : Got) (a b : List Key) (old new : Option (List Emission)) (T F : Type 0)
    → ReplayEnds (Some files) at g answer.Usage a b old new → IfSome (script_in g) (AreWell files at T F answer.Usage)
comes_misspelt files at (File bytes) a b old new T F x = follows_misspelt files at (script_of bytes) a b old new T F x
comes_misspelt files at Absent a b old new T F x = tt
comes_misspelt files at TooLong a b old new T F x = tt

told_complete : (files : Files) (at : List ℕ) (st : Status) (a b : List Key) (old new : Option (List Emission)) (tree tree' sink sink' : ℕ)
    → IsReplayed (Some files) at st a b old new → Causes st tree tree' sink sink' → IsReplayComplete files at (HasFailed tree tree') (HasFailed sink sink') st
told_complete files at answer.Done a b old new tree tree' sink sink' r c = always _ (AreWell files at (HasFailed tree tree') (HasFailed sink sink') answer.Done) (λ lines n t f. inl refl)
told_complete files at answer.WantOfMemory a b old new tree tree' sink sink' r c = always _ (AreWell files at (HasFailed tree tree') (HasFailed sink sink') answer.WantOfMemory) (λ lines n t f. inr refl)
told_complete files at answer.ReadFault a b old new tree tree' sink sink' r c = always _ (AreWell files at (HasFailed tree tree') (HasFailed sink sink') answer.ReadFault) (λ lines n t f. absurd (t c.read_fault))
told_complete files at answer.WriteFault a b old new tree tree' sink sink' r c = always _ (AreWell files at (HasFailed tree tree') (HasFailed sink sink') answer.WriteFault) (λ lines n t f. absurd (f c.write_fault))
told_complete files at answer.FileFault a b old new tree tree' sink sink' (inl u) c = absurd u.0
told_complete files at answer.FileFault a b old new tree tree' sink sink' (inr r) c =
    subst (λ g. IfSome (script_in g) (AreWell files at (HasFailed tree tree') (HasFailed sink sink') answer.FileFault)) r.1 (comes_faulty files at r.0 a b old new (HasFailed tree tree') (HasFailed sink sink') r.2)
told_complete files at answer.Usage a b old new tree tree' sink sink' (inl u) c = absurd u.0
told_complete files at answer.Usage a b old new tree tree' sink sink' (inr r) c =
    subst (λ g. IfSome (script_in g) (AreWell files at (HasFailed tree tree') (HasFailed sink sink') answer.Usage)) r.1 (comes_misspelt files at r.0 a b old new (HasFailed tree tree') (HasFailed sink sink') r.2)

pub replay_complete : (held : Option Files) (at : List ℕ) (st : Status) (a b : List Key) (old new : Option (List Emission)) (tree tree' sink sink' : ℕ)
    → IsReplayed held at st a b old new → Causes st tree tree' sink sink' → IfSome held (λ files. IsReplayComplete files at (HasFailed tree tree') (HasFailed sink sink') st)
replay_complete None at st a b old new tree tree' sink sink' r c = tt
replay_complete (Some files) at st a b old new tree tree' sink sink' r c = told_complete files at st a b old new tree tree' sink sink' r c

-- what holds of the script of words that are a replay's
pub of_replay : (command : Option Command) (at : List ℕ) (P : List ℕ → Type 0) → command ≡ Some (Replay at) → P at → IfReplay command P
of_replay command at P e p = subst (λ z. IfReplay z P) (sym e) p
