-- From what the engine promises to what a build has done.
use Rattle.std.proofs.Common.{◌≡◌, ◌⊎◌, inl, inr, refl, sym, ap, ◌∙◌, ℕ, zero, ◌-◌, List, length, length-append, arith, Contains, Option, subst, Result, Ok, Err}
use Rattle.std.specs.Result.{IsErrAnd}
use Rattle.std.proofs.lemmas.List.{append_cancel_left}
use Rattle.std.proofs.lemmas.List.Elements.{All-contains}
use Rattle.build_base.specs.World.{World}
use Rattle.step_engine.specs.Build.{Setting, IsHere, Ran, RanAll}
use Rattle.step_engine.specs.Build.{IsBuilt as IsBuiltBy}
use Rattle.step_engine.specs.Caches.{AreInOrder}
use Rattle.step_engine.specs.Meaning.{Asks}
use Rattle.step_engine.specs.Needed.{IsLeft, IsNeeded, IsNeededCount, IsNeededEntry, IsOtherEntry, IsStep, itself, asked}
use Rattle.step_engine.specs.declared.talk.Ask.TheVariants as ask
use Rattle.step_engine.specs.declared.talk.Entry.{Entry}
use Rattle.step_engine.specs.declared.talk.Outcome.{Outcome}
use Rattle.step_engine.specs.declared.talk.Outcome.TheVariants.{Good, Bad}
use Rattle.step_pack.specs.declared.key.Key.{Key}
use Rattle.step_pack.specs.declared.key.Key.TheVariants as key
use Rattle.step_pack.specs.declared.out.Out.{Out}
use Rattle.step_pack.specs.declared.out.Out.TheVariants as out
use Rattle.step_pack.specs.declared.out.Output.{Output}
use Rattle.build_rules.specs.Rules.{value_in}
use Rattle.build_rules.proofs.NamedOutputs.{outputs_asked}
use Rattle.build_base.specs.Outside.{Emission}
use Rattle.build_base.specs.Spelling.{Spelled, SpelledCut}
use Rattle.step_pack.specs.Keys.{key_cmp}
use Rattle.edk_build.specs.Building.{means, AgreesOnGood, HasSource, IsBrought, IsCounted, IsBuilt, IsCutShort}
use Rattle.edk_build.specs.Emitting.{emitted, status_of}
use Rattle.edk_build.specs.Outcome.{files_by, outputs_in}
use Rattle.edk_build.specs.declared.label.Label.{Label}
use Rattle.edk_build.specs.declared.status.Status.{Status}
use Rattle.edk_build.specs.declared.stop.Stop.{Stop}
use Rattle.edk_build.specs.declared.stop.Stop.TheVariants.{ReadFault, WriteFault, WantOfMemory}
use Rattle.edk_build.specs.Stops.{IfWriteFault}

agrees_one : (w : World) (old : List (Entry Key Out)) (given : Out) → Good given ≡ value_in w key.All → (entry : Entry Key Out)
    → (IsNeededEntry means w key.All entry ⊎ IsOtherEntry means w old key.All entry) → value_in w entry.key ≡ entry.result
agrees_one w old given e entry (inl needed) = needed.1.value
agrees_one w old given e entry (inr other) =
    let wrong : Good given ≡ Bad other.0.0 = e ∙ other.0.1 in absurd cc

-- the build needs itself, and so each step that it asks for
output_needed : (w : World) (k : Key) → Asks means w key.All (ask.Part k) → IsNeeded means w key.All k
output_needed w k a = asked (itself (zero, omega arith, refl)) a

-- the step that an output of the top step names has an entry
output_has : (w : World) (old cache : List (Entry Key Out)) (given : Out) → Good given ≡ value_in w key.All → IsLeft means w old key.All cache
    → (o : Output) → Contains (outputs_in given) o → HasSource (value_in w) cache o
output_has w old cache (out.All outputs) e l o c =
    inl (l.has o.from (output_needed w o.from (All-contains (λ (o : Output). Asks means w key.All (ask.Part o.from)) outputs o (outputs_asked w outputs (sym e)) c)))
output_has w old cache given e l o c = absurd (omega (arith, c.1))

-- each entry that a build leaves whose top step gives no fault has its key's value, and each output
-- has an entry
pub agrees : (w : World) (old cache : List (Entry Key Out)) (result : Outcome Out) → result ≡ value_in w key.All → IsLeft means w old key.All cache
    → AgreesOnGood result (value_in w) cache
agrees w old cache (Bad fault) e l = tt
agrees w old cache (Good given) e l = record {
  agrees = λ entry has. agrees_one w old given e entry ((l.entries entry).0 has);
  sources = output_has w old cache given e l;
}

-- the keys that the book grew by are the steps
pub counted : (w : World) (s : Setting Key Out) (book book' : List Key) (needed : ℕ) → IsHere s w → s.means ≡ means → Ran s key.All book book' → RanAll s key.All book book'
    → IsNeededCount means w key.All needed → IsCounted w s.old (length book' - length book) needed
counted w s book book' needed h m ran all n =
    let same : ran.0 ≡ all.0 = append_cancel_left book ran.0 all.0 (sym ran.1 ∙ all.1) in
    record {
      ran = record {
        keys = ran.0;
        distinct = ran.2;
        are_steps = λ k. (
          λ c. subst (λ x. IsStep x w s.old key.All k) m (ran.3 w h k c),
          λ step. rw same (all.3 w h k (subst (λ x. IsStep x w s.old key.All k) (sym m) step)),
        );
        number = rw ran.1 (rw (length-append book ran.0) (omega arith));
      };
      all = n;
    }

-- what the engine promises, as a build has it
pub brought : (w : World) (s : Setting Key Out) (book book' : List Key) (result : Outcome Out) (cache : List (Entry Key Out)) (needed steps reused : ℕ)
    → IsHere s w → s.means ≡ means → IsBuiltBy key_cmp means w s.old key.All result cache needed → Ran s key.All book book' → RanAll s key.All book book'
    → steps ≡ length book' - length book → reused ≡ needed - steps → AreInOrder key_cmp cache → IsBrought w s.old result cache steps reused
brought w s book book' result cache needed steps reused h m b ran all n r o = record {
  needed = needed;
  value = b.value;
  agrees = agrees w s.old cache result b.value b.left;
  counted = rw n (counted w s book book' needed h m ran all b.count);
  reuses = r;
  leaves = record { left = b.left; order = o; only = b.only; full = b.full };
}

pub built : (w : World) (old : List (Entry Key Out)) (result : Outcome Out) (cache : List (Entry Key Out)) (steps reused : ℕ) (label : Label) (status : Status) (a b : Option (List Emission))
    → IsBrought w old result cache steps reused → status ≡ status_of (files_by (value_in w) result)
    → Spelled a b (emitted label (files_by (value_in w) result) steps reused) → IsBuilt w old label status a b
built w old result cache steps reused label status a b x e t = record {
  steps = steps;
  needed = x.needed;
  counted = x.counted;
  ends = e ∙ ap (λ r. status_of (files_by (value_in w) r)) x.value;
  written = rw (← x.value, ← x.reuses) t;
}

pub cut_short : (w : World) (old : List (Entry Key Out)) (result : Outcome Out) (cache : List (Entry Key Out)) (steps reused : ℕ) (label : Label) (a b : Option (List Emission))
    → IsBrought w old result cache steps reused
    → SpelledCut a b (emitted label (files_by (value_in w) result) steps reused) → IsCutShort w old label a b
cut_short w old result cache steps reused label a b x t = record {
  steps = steps;
  needed = x.needed;
  counted = x.counted;
  written = rw (← x.value, ← x.reuses) t;
}

-- a refusal that is handed on is a failed emission only where it was one
pub handed_on : {A : Type 0} (r : Result A Stop) (e : Stop) (P : Type 0) → IsErrAnd r (λ x. x ≡ e) → (e ≡ WriteFault → P) → IfWriteFault r P
handed_on (Ok x) e P h f = tt
handed_on (Err ReadFault) e P h f = tt
handed_on (Err WantOfMemory) e P h f = tt
handed_on (Err WriteFault) e P h f = f (sym h)

pub was_cut : (e : Stop) (P : Type 0) → e ≡ WriteFault → IfWriteFault {A = Status} (Err e) P → P
was_cut e P h p = subst (λ x. IfWriteFault {A = Status} (Err x) P) h p
