-- From what a build has done to what a run answers.
use Rattle.std.proofs.Common.{◌≡◌, sym, ap, ◌∙◌, ℕ, List, [], Option, subst}
use Rattle.build_base.specs.Outside.{Files}
use Rattle.step_engine.specs.Build.{setting, Ran, RanAll, HasRead}
use Rattle.step_engine.proofs.EditLemmas.{over_none}
use Rattle.step_engine.proofs.Moves.{added_none, none_in}
use Rattle.step_engine.specs.Edits.{over}
use Rattle.step_engine.specs.declared.edits.Edit.{Edit}
use Rattle.step_engine.specs.declared.talk.Entry.{Entry}
use Rattle.step_pack.specs.declared.key.Key.{Key}
use Rattle.step_pack.specs.declared.key.Key.TheVariants as key
use Rattle.step_pack.specs.declared.out.Out.{Out}
use Rattle.edk_build.specs.Building.{means}
use Rattle.edk_build.specs.Statuses.{OnEnd}
use Rattle.edk_build.specs.Stops.{stop_status}
use Rattle.edk_build.specs.declared.status.Status.{Status}
use Rattle.edk_build.specs.declared.status.Status.TheVariants.{Done, FileFault, Usage, ReadFault, WriteFault, WantOfMemory}
use Rattle.edk_build.specs.declared.stop.Stop.{Stop}
use Rattle.edk_build.specs.declared.stop.Stop.TheVariants as stop

pub on_end : (s : Status) (P : Type 0) → P → OnEnd s P
on_end Done P p = p
on_end FileFault P p = p
on_end Usage P p = tt
on_end ReadFault P p = tt
on_end WriteFault P p = tt
on_end WantOfMemory P p = tt

stop_no_end : (stop : Stop) (P : Type 0) → OnEnd (stop_status stop) P
stop_no_end stop.ReadFault P = tt
stop_no_end stop.WriteFault P = tt
stop_no_end stop.WantOfMemory P = tt

pub on_stop : (s : Status) (stop : Stop) (P : Type 0) → s ≡ stop_status stop → OnEnd s P
on_stop s stop P e = subst (λ z. OnEnd z P) (sym e) (stop_no_end stop P)

same_setting : (held : Option Files) (f f' : List (List ℕ)) (o : List (Entry Key Out)) → f ≡ f' → setting means held f o ≡ setting means held f' o
same_setting held f f' o e = ap (λ z. setting means held z o) e

pub same_ran : (held : Option Files) (f f' : List (List ℕ)) (o o' : List (Entry Key Out)) (a b : List Key) → f ≡ f' → o ≡ o'
    → Ran (setting means held f o) key.All a b → Ran (setting means held f' o') key.All a b
same_ran held f f' o o' a b e d r = subst (λ s. Ran s key.All a b) (same_setting held f f' o e ∙ ap (λ z. setting means held f' z) d) r

pub same_all : (held : Option Files) (f f' : List (List ℕ)) (o o' : List (Entry Key Out)) (a b : List Key) → f ≡ f' → o ≡ o'
    → RanAll (setting means held f o) key.All a b → RanAll (setting means held f' o') key.All a b
same_all held f f' o o' a b e d r = subst (λ s. RanAll s key.All a b) (same_setting held f f' o e ∙ ap (λ z. setting means held f' z) d) r

-- where there are no edits
pub told_over : (held : Option Files) (es : List Edit) → es ≡ [] → over es held ≡ held
told_over held es e = ap (λ z. over z held) e ∙ over_none held

over_setting : (held : Option Files) (es : List Edit) (f f' : List (List ℕ)) (o : List (Entry Key Out)) → es ≡ [] → f ≡ f' → setting means (over es held) f o ≡ setting means held f' o
over_setting held es f f' o n e = ap (λ h. setting means h f o) (told_over held es n) ∙ same_setting held f f' o e

pub over_ran : (held : Option Files) (es : List Edit) (f f' : List (List ℕ)) (o : List (Entry Key Out)) (a b : List Key) → es ≡ [] → f ≡ f'
    → Ran (setting means (over es held) f o) key.All a b → Ran (setting means held f' o) key.All a b
over_ran held es f f' o a b n e r = subst (λ s. Ran s key.All a b) (over_setting held es f f' o n e) r

pub over_all : (held : Option Files) (es : List Edit) (f f' : List (List ℕ)) (o : List (Entry Key Out)) (a b : List Key) → es ≡ [] → f ≡ f'
    → RanAll (setting means (over es held) f o) key.All a b → RanAll (setting means held f' o) key.All a b
over_all held es f f' o a b n e r = subst (λ s. RanAll s key.All a b) (over_setting held es f f' o n e) r

pub over_read : (held : Option Files) (es : List Edit) (f f' : List (List ℕ)) (o : List (Entry Key Out)) (a b : Option (List (List ℕ))) → es ≡ [] → f ≡ f'
    → HasRead (setting means (over es held) f o) key.All a b → HasRead (setting means held f' o) key.All a b
over_read held es f f' o a b n e r = subst (λ s. HasRead s key.All a b) (over_setting held es f f' o n e) r

-- where nothing was read
pub read_none : (held : Option Files) (f : List (List ℕ)) (o : List (Entry Key Out)) (reads : Option (List (List ℕ))) → HasRead (setting means held f o) key.All reads reads
read_none held f o reads = ([], added_none reads, tt, λ w h p c. absurd (none_in p c))
