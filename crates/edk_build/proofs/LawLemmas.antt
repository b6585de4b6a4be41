-- Laws of what is kept.
use Rattle.std.proofs.Common.{◌≡◌, inl, inr, refl, sym, ◌∙◌, ℕ, List, [], ◌∷◌, length, Option, Some, None, Contains, subst, arith}
use Rattle.std.specs.Option.{IfSome}
use Rattle.build_base.specs.World.{World}
use Rattle.build_rules.proofs.AdoptLemmas.{all_stay}
use Rattle.step_cache.specs.CacheText.{newest, IsCacheText, IsNoText}
use Rattle.step_engine.specs.Entries.{AreSound}
use Rattle.step_engine.specs.Needed.{IsFull, IsStep}
use Rattle.step_engine.specs.declared.talk.Entry.{Entry}
use Rattle.step_pack.specs.declared.key.Key.{Key}
use Rattle.step_pack.specs.declared.key.Key.TheVariants as key
use Rattle.step_pack.specs.declared.out.Out.{Out}
use Rattle.edk_build.proofs.KeptLemmas.{empty_sound, of_text, stands_for}
use Rattle.edk_build.specs.Building.{means, IsStepCount}
use Rattle.edk_build.specs.Kept.{IsSoundKept, OfKept, StandsFor, StaysSound}
use Rattle.edk_build.specs.KeptBuild.{HasEnded, HasStopped}
use Rattle.edk_build.specs.KeptRuns.{AreRight, BuildRun, EndsRight, Follow, FromKept, IsEnd, IsRight, IsRun, RanNothing, StopsRight}
use Rattle.edk_build.specs.Run.{world_of}
use Rattle.edk_build.specs.Statuses.{OnEnd, OnUnwritten, OnWriteFault}
use Rattle.edk_build.specs.declared.status.Status.{Status}
use Rattle.edk_build.specs.declared.status.Status.TheVariants.{Done, FileFault, Usage, ReadFault, WriteFault, WantOfMemory}

pub one_cache : (kept : Option (List ℕ)) (a b : List (Entry Key Out)) → StandsFor kept a → StandsFor kept b → a ≡ b
one_cache None a b x y = x ∙ sym y
one_cache (Some bytes) a b (inl x) (inl y) = of_text y.edition y.entries a bytes y.text x ∙ sym y.holds
one_cache (Some bytes) a b (inl x) (inr y) = absurd (y.0 x.edition x.entries x.text)
one_cache (Some bytes) a b (inr x) (inl y) = absurd (x.0 y.edition y.entries y.text)
one_cache (Some bytes) a b (inr x) (inr y) = x.1 ∙ sym y.1

pub sound_nothing : IsSoundKept None
sound_nothing cache e = subst (AreSound means) (sym e) empty_sound

pub sound_no_text : (bytes : List ℕ) → IsNoText bytes → IsSoundKept (Some bytes)
sound_no_text bytes n cache (inl t) = absurd (n t.edition t.entries t.text)
sound_no_text bytes n cache (inr e) = subst (AreSound means) (sym e.1) empty_sound

on_end : (s : Status) (P Q : Type 0) → (P → Q) → OnEnd s P → OnEnd s Q
on_end Done P Q f p = f p
on_end FileFault P Q f p = f p
on_end Usage P Q f p = tt
on_end ReadFault P Q f p = tt
on_end WriteFault P Q f p = tt
on_end WantOfMemory P Q f p = tt

on_write : (s : Status) (P Q : Type 0) → (P → Q) → OnWriteFault s P → OnWriteFault s Q
on_write Done P Q f p = tt
on_write FileFault P Q f p = tt
on_write Usage P Q f p = tt
on_write ReadFault P Q f p = tt
on_write WriteFault P Q f p = f p
on_write WantOfMemory P Q f p = tt

on_unwritten : (s : Status) (P Q R : Type 0) → (P → Q → R) → OnUnwritten s P → OnUnwritten s Q → OnUnwritten s R
on_unwritten Done P Q R f p q = tt
on_unwritten FileFault P Q R f p q = tt
on_unwritten Usage P Q R f p q = tt
on_unwritten ReadFault P Q R f p q = f p q
on_unwritten WriteFault P Q R f p q = tt
on_unwritten WantOfMemory P Q R f p q = f p q

of_kept : (told : Option (Option (List ℕ))) (kept : Option (List ℕ)) (P : List (Entry Key Out) → Type 0) → told ≡ Some kept → IsSoundKept kept → OfKept told P → FromKept kept P
of_kept None kept P e s k = absurd cc
of_kept (Some there) kept P e s k =
    let same : there ≡ kept = cc in
    let at : StandsFor kept k.0 = subst (λ z. StandsFor z k.0) same k.1 in
    (k.0, at, s k.0 at, k.2)

of_found : (kept : Option (List ℕ)) (P Q : List (Entry Key Out) → Type 0) → ((cache : List (Entry Key Out)) → AreSound means cache → P cache → Q cache) → FromKept kept P → FromKept kept Q
of_found kept P Q f k = (k.0, k.1, k.2, f k.0 k.2 k.3)

-- what is kept, where the keeper tells it
kept_is : (told : Option (Option (List ℕ))) (after : Option (List ℕ)) (stored : List ℕ) → told ≡ Some after → IfSome told (λ kept. kept ≡ Some stored) → after ≡ Some stored
kept_is None after stored e k = absurd cc
kept_is (Some there) after stored e k = let same : there ≡ after = cc in sym same ∙ k

kept_stays : (told told' : Option (Option (List ℕ))) (before after : Option (List ℕ)) → told ≡ Some before → told' ≡ Some after → told' ≡ told → after ≡ before
kept_stays told told' before after b a e =
    let both : Some after ≡ Some before = sym a ∙ e ∙ b in
    cc

ends : (r : BuildRun) → r.new.kept ≡ Some r.after → (cache : List (Entry Key Out)) → AreSound means cache → HasEnded (Some r.files) r.job cache r.status r.old r.new → EndsRight r cache
ends r told cache s h = record {
  built = h.built s;
  left = h.left;
  stored = h.stored;
  stored_is = h.stored_is;
  kept = kept_is r.new.kept r.after h.stored told h.kept;
  leaves = h.leaves s;
}

stops : (r : BuildRun) (cache : List (Entry Key Out)) → AreSound means cache → HasStopped (Some r.files) r.job cache r.old r.new → StopsRight r cache
stops r cache s h = record { cut = h.cut s; stopped = h }

right : (r : BuildRun) → IsSoundKept r.before → IsRun r → IsRight r
right r s x = record {
  built =
      on_end r.status (OfKept r.old.kept (λ cache. HasEnded (Some r.files) r.job cache r.status r.old r.new))
      (FromKept r.before (EndsRight r))
      (λ k. of_found r.before (λ cache. HasEnded (Some r.files) r.job cache r.status r.old r.new) (EndsRight r) (ends r x.told_after)
      (of_kept r.old.kept r.before (λ cache. HasEnded (Some r.files) r.job cache r.status r.old r.new) x.told_before s k)) x.built;
  cut =
      on_write r.status (OfKept r.old.kept (λ cache. HasStopped (Some r.files) r.job cache r.old r.new))
      (FromKept r.before (StopsRight r))
      (λ k. of_found r.before (λ cache. HasStopped (Some r.files) r.job cache r.old r.new) (StopsRight r) (stops r)
      (of_kept r.old.kept r.before (λ cache. HasStopped (Some r.files) r.job cache r.old r.new) x.told_before s k)) x.stopped;
  left =
      on_unwritten r.status (r.new.kept ≡ r.old.kept) (r.new.written ≡ r.old.written)
      ((r.after ≡ r.before) × (r.new.written ≡ r.old.written))
      (λ k w. (kept_stays r.old.kept r.new.kept r.before r.after x.told_before x.told_after k, w)) x.kept x.unwritten;
}

sound_on : (told told' : Option (Option (List ℕ))) (before after : Option (List ℕ)) → told ≡ Some before → told' ≡ Some after → StaysSound told told' → IsSoundKept before → IsSoundKept after
sound_on told told' before after b a = rw (b, a) (λ f. f)

pub all_right : (kept : Option (List ℕ)) (runs : List BuildRun) → IsSoundKept kept → Follow kept runs → AreRight runs
all_right kept [] s f = tt
all_right kept (r ∷ runs) s f =
    let here : IsSoundKept r.before = subst IsSoundKept (sym f.0) s in
    (right r here f.1, all_right r.after runs (sound_on r.old.kept r.new.kept r.before r.after f.1.told_before f.1.told_after f.1.stays_sound here) f.2)

-- the text of a cache stands for that cache
own_text : (left : List (Entry Key Out)) (stored : List ℕ) → IsCacheText left stored → StandsFor (Some stored) left
own_text left stored t = stands_for stored newest left left t (sym (all_stay left))

-- where each needed key has a valid entry no step is to be run
none_run : (w : World) (cache : List (Entry Key Out)) (keys : List Key) → IsFull means w key.All cache → ((k : Key) → Contains keys k → IsStep means w cache key.All k) → length keys ≡ 0
none_run w cache [] full each = refl
none_run w cache (k ∷ keys) full each =
    let step : IsStep means w cache key.All k = each k (0, omega arith, refl) in
    let valid = full k step.needed in
    absurd (step.stale valid.0 valid.1 valid.2 valid.3)

no_steps : (w : World) (cache : List (Entry Key Out)) (n : ℕ) → IsFull means w key.All cache → IsStepCount w cache n → n ≡ 0
no_steps w cache n full count = sym count.number ∙ none_run w cache count.keys full (λ k c. (count.are_steps k).0 c)

-- what a run left that came to its end
end_of : (s : Status) (P : Type 0) → IsEnd s → OnEnd s P → P
end_of Done P e p = p
end_of FileFault P e p = p
end_of Usage P e p = absurd e
end_of ReadFault P e p = absurd e
end_of WriteFault P e p = absurd e
end_of WantOfMemory P e p = absurd e

full_of : (first second : BuildRun) → second.before ≡ first.after → second.files ≡ first.files → second.job ≡ first.job → (before : List (Entry Key Out)) (x : EndsRight first before) → (cache : List (Entry Key Out)) → StandsFor second.before cache
    → IsFull means (world_of second.files second.job) key.All cache
full_of first second b f j before x cache stands =
    let here : StandsFor (Some x.stored) cache = subst (λ z. StandsFor z cache) (b ∙ x.kept) stands in
    let same : x.left ≡ cache = one_cache (Some x.stored) x.left cache (own_text x.left x.stored x.stored_is) here in
    subst (λ z. IsFull means (world_of z second.job) key.All cache) (sym f)
    (subst (λ z. IsFull means (world_of first.files z) key.All cache) (sym j)
    (subst (λ (z : List (Entry Key Out)). IsFull means (world_of first.files first.job) key.All z) same x.leaves.full))

pub again_nothing : (kept : Option (List ℕ)) (first second : BuildRun) → IsSoundKept kept → Follow kept (first ∷ second ∷ []) → second.files ≡ first.files → second.job ≡ first.job → IsEnd first.status → OnEnd second.status (RanNothing second)
again_nothing kept first second s f files job ended =
    let both : AreRight (first ∷ second ∷ []) = all_right kept (first ∷ second ∷ []) s f in
    let one = end_of first.status (FromKept first.before (EndsRight first)) ended both.0.built in
    on_end second.status (FromKept second.before (EndsRight second)) (RanNothing second)
    (λ k. (
      k.0,
      k.1,
      k.2,
      (k.3.built, no_steps (world_of second.files second.job) k.0 k.3.built.steps (full_of first second f.2.0 files job one.0 one.3 k.0 k.1) k.3.built.counted.ran),
    )) both.1.0.built
