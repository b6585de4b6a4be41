-- Each output of the whole build names a step that the build asks for.
use Rattle.std.specs.Prelude.{◌&&◌}
use Rattle.std.proofs.Common.{◌≡◌, inl, inr, ℕ, ◌+◌, Bool, true, false, List, [], ◌∷◌, ◌++◌, length, Option, Some, None, Result, Ok, Err, IfOk, All, Contains, refl, sym, ap, ◌∙◌, subst}
use Rattle.std.proofs.lemmas.List.Elements.{All-nil, All-cons, All-append, All-weaker}
use Rattle.build_base.specs.First.{and_then, or_fault, with_front}
use Rattle.build_base.specs.World.{World}
use Rattle.build_base.specs.declared.fault.Fault.{Fault}
use Rattle.doc_types.specs.declared.choice.Module.{Module}
use Rattle.doc_types.specs.declared.flash.DevicePlan.{DevicePlan}
use Rattle.doc_types.specs.declared.flash.FlashDoc.{FlashDoc}
use Rattle.doc_types.specs.declared.volume.VolumePlan.{VolumePlan}
use Rattle.step_engine.specs.Meaning.{right, Asks}
use Rattle.step_engine.specs.declared.talk.Ask.{Ask}
use Rattle.step_engine.specs.declared.talk.Ask.TheVariants as ask
use Rattle.step_engine.specs.declared.talk.Outcome.TheVariants.{Good}
use Rattle.step_engine.specs.declared.talk.Pair.{Pair}
use Rattle.build_stages.specs.Stages.{end, stage, run, outcome_of, meaning_of}
use Rattle.build_stages.specs.StagesLaws.{value_is}
use Rattle.build_stages.specs.Writing.{attempt, when}
use Rattle.step_pack.specs.Keys.{key_cmp}
use Rattle.step_pack.specs.declared.key.Key.{Key}
use Rattle.step_pack.specs.declared.key.Key.TheVariants as key
use Rattle.step_pack.specs.declared.out.Out.{Out}
use Rattle.step_pack.specs.declared.out.Out.TheVariants as out
use Rattle.step_pack.specs.declared.out.Output.{Output}
use Rattle.text_steps.specs.Asks.{built_asks, build_module_asks}
use Rattle.step_answers.specs.Volumes.{volume_key, fits_u16}
use Rattle.step_answers.specs.Fits.{fits}
use Rattle.step_answers.specs.Folders.{path_below}
use Rattle.step_answers.specs.Readers.{EdkStages, given_as, platform_in, flash_in}
use Rattle.step_answers.specs.VpdLines.{has_vpd}
use Rattle.output_steps.specs.AllTree.{step_where, steps_from, device_step, report_part, build_asks, all_asks, all_given, all_stages, folder_in, modules_in, wanted_in, report_in}
use Rattle.output_steps.specs.Outputs.{image_output, image_where, file_output, c_output, h_output, code_outputs, depex_outputs, module_folder, module_outputs, bytes_in, named_in, outputs_in, modules_outputs, volume_outputs, device_outputs, vpd_outputs, report_output, outputs_of}
use Rattle.output_steps.specs.Wanted.{is_marked}
use Rattle.output_steps.specs.declared.wanted.Wanted.{Wanted}
use Rattle.build_rules.specs.Rules.{edk, value_in}
use Rattle.build_rules.specs.RulesBounds.{edk_is_bounded}
use Rattle.build_rules.proofs.Asked.{given_in, fault_asked, AreIn, in_here, in_there, in_first, in_behind, in_one, in_more}
use Rattle.build_rules.proofs.KindLemmas.{stage_run}
use Rattle.build_rules.proofs.ReachedLemmas.{Reaches, reached_asked}

-- Outcomes that are there.

pub fault_ok : {A : Type 0} (q : Option Fault) (r : Result A Fault) (y : A) → or_fault q r ≡ Ok y → (q ≡ None) × (r ≡ Ok y)
fault_ok None r y e = (refl, e)
fault_ok (Some fault) r y e = absurd cc

pub if_then : {A B : Type 0} (P : A → Type 0) (Q : B → Type 0) (r : Result A Fault) (f : A → Result B Fault) → IfOk r P → ((x : A) → P x → IfOk (f x) Q) → IfOk (and_then r f) Q
if_then P Q (Ok x) f p h = h x p
if_then P Q (Err fault) f p h = tt

pub if_ok : {A : Type 0} (P : A → Type 0) (r : Result A Fault) (x : A) → r ≡ Ok x → IfOk r P → P x
if_ok P r x e h = (elim r as (λ r. r ≡ Ok x → IfOk r P → P x) [
  | Ok y ↦ λ e h. let same : y ≡ x = cc in subst P same h
  | Err fault ↦ λ e h. absurd cc
]) e h

pub any_ok : {A : Type 0} (r : Result A Fault) → IfOk r (λ x. Unit {0})
any_ok (Ok x) = tt
any_ok (Err fault) = tt

-- What holds of outputs by the step and the part that they name.

abbrev pub AreOf : (Key → ℕ → Type 0) → List Output → Type 0
AreOf P outputs = All (λ (o : Output). P o.from o.part) outputs

pub none_are : (P : Key → ℕ → Type 0) → AreOf P []
none_are P = All-nil (λ (o : Output). P o.from o.part)

pub one_are : (P : Key → ℕ → Type 0) (o : Output) → P o.from o.part → AreOf P (o ∷ [])
one_are P o h = All-cons (λ (o : Output). P o.from o.part) o [] h (none_are P)

pub two_are : (P : Key → ℕ → Type 0) (o u : Output) → P o.from o.part → P u.from u.part → AreOf P (o ∷ u ∷ [])
two_are P o u h k = All-cons (λ (o : Output). P o.from o.part) o (u ∷ []) h (one_are P u k)

pub front_are : (P : Key → ℕ → Type 0) (front : List Output) (r : Result (List Output) Fault) → AreOf P front → IfOk r (AreOf P) → IfOk (with_front front r) (AreOf P)
front_are P front (Ok xs) h k = All-append (λ (o : Output). P o.from o.part) front xs h k
front_are P front (Err fault) h k = tt

-- one list and then others
pub next_are : (P : Key → ℕ → Type 0) (r t : Result (List Output) Fault) → IfOk r (AreOf P) → IfOk t (AreOf P) → IfOk (and_then r (λ xs. with_front xs t)) (AreOf P)
next_are P r t h k = if_then (AreOf P) (AreOf P) r (λ xs. with_front xs t) h (λ xs p. front_are P xs t p k)

pub file_made : (P : Key → ℕ → Type 0) (folder name : List ℕ) (from : Key) (part : ℕ) → P from part → IfOk (file_output folder name from part) (λ (o : Output). P o.from o.part)
file_made P folder name from part p =
    if_then (λ (path : List ℕ). Unit {0}) (λ (o : Output). P o.from o.part) (path_below folder name) (λ path. Ok (record { path = path; from = from; part = part }))
    (any_ok (path_below folder name)) (λ path u. p)

-- Those of a module.

c_made : (P : Key → ℕ → Type 0) (below : List ℕ) (m : Module) → P (key.Code m) 0 → IfOk (c_output below m) (λ (o : Output). P o.from o.part)
unfolding c_output
c_made P below m p = file_made P below _ (key.Code m) 0 p

h_made : (P : Key → ℕ → Type 0) (below : List ℕ) (m : Module) → P (key.Code m) 1 → IfOk (h_output below m) (λ (o : Output). P o.from o.part)
unfolding h_output
h_made P below m p = file_made P below _ (key.Code m) 1 p

code_made : (P : Key → ℕ → Type 0) (below : List ℕ) (m : Module) (texts : Bool) → (texts ≡ true → P (key.Code m) 0 × P (key.Code m) 1) → IfOk (code_outputs below m texts) (AreOf P)
code_made P below m false h = none_are P
code_made P below m true h =
    if_then (λ (o : Output). P o.from o.part) (AreOf P) (c_output below m) (λ c. and_then (h_output below m) (λ h. Ok (c ∷ h ∷ []))) (c_made P below m (h refl).0) (λ c p.
    if_then (λ (o : Output). P o.from o.part) (AreOf P) (h_output below m) (λ h. Ok (c ∷ h ∷ [])) (h_made P below m (h refl).1) (λ h q. two_are P c h p q))

depex_made : (P : Key → ℕ → Type 0) (below : List ℕ) (m : Module) (name : List ℕ) (depex : Bool) → (depex ≡ true → P (key.Depex m) 0) → IfOk (depex_outputs below m name depex) (AreOf P)
depex_made P below m name false h = none_are P
depex_made P below m name true h =
    if_then (λ (o : Output). P o.from o.part) (AreOf P) (file_output below _ (key.Depex m) 0) (λ output. Ok (output ∷ [])) (file_made P below _ (key.Depex m) 0 (h refl)) (λ o p. one_are P o p)

pub module_made : (P : Key → ℕ → Type 0) (folder : List ℕ) (m : Module) (name : List ℕ) (texts depex : Bool) → (texts ≡ true → P (key.Code m) 0 × P (key.Code m) 1) → (depex ≡ true → P (key.Depex m) 0)
    → IfOk (module_outputs folder m name texts depex) (AreOf P)
module_made P folder m name texts depex h k =
    if_then (λ (path : List ℕ). Unit {0}) (AreOf P) (module_folder folder m) (λ below. and_then (code_outputs below m texts) (λ code. with_front code (depex_outputs below m name depex))) (any_ok (module_folder folder m)) (λ below u.
    next_are P (code_outputs below m texts) (depex_outputs below m name depex) (code_made P below m texts h) (depex_made P below m name depex k))

-- Those of images.

pub image_made : (P : Key → ℕ → Type 0) (b : Bool) (folder name extension : List ℕ) (from : Key) → (b ≡ true → P from 0) → IfOk (image_where b folder name extension from) (AreOf P)
image_made P false folder name extension from h = none_are P
image_made P true folder name extension from h =
    if_then (λ (o : Output). P o.from o.part) (AreOf P) (image_output folder name extension from) (λ output. Ok (output ∷ []))
    (if_then (λ (path : List ℕ). Unit {0}) (λ (o : Output). P o.from o.part) (path_below folder _) (λ path. Ok (record { path = path; from = from; part = 0 })) (any_ok (path_below folder _)) (λ path u. h refl))
    (λ o p. one_are P o p)

-- The steps that they name are among these asks.

abbrev AskedIn : List (Ask Key) → Key → ℕ → Type 0
AskedIn asks k part = Contains asks (ask.Part k)

-- the step of what is wanted is among the asks
pub wanted_step : (b : Bool) (k : Key) → b ≡ true → Contains (step_where b k) (ask.Part k)
wanted_step true k e = in_here (ask.Part k) []
wanted_step false k e = absurd cc

module_named : (asks : List (Ask Key)) (folder : List ℕ) (given : List (Pair Key Out)) (m : Module) → AreIn (built_asks m) asks → IfOk (outputs_in folder given m) (AreOf (AskedIn asks))
unfolding outputs_in
module_named asks folder given m sub =
    let P = AskedIn asks in
    let inf = ask.Part (key.Inf m.inf) in
    let code = ask.Part (key.Code m) in
    let depex = ask.Part (key.Depex m) in
    let behind = in_more inf (code ∷ depex ∷ []) asks sub in
    let c = in_one code (depex ∷ []) asks behind in
    let d = in_one depex [] asks (in_more code (depex ∷ []) asks behind) in
    if_then (λ (x : List ℕ × Bool). Unit {0}) (AreOf P) (named_in given m) (λ x. and_then (bytes_in given m) (λ depex. module_outputs folder m x.0 x.1 depex)) (any_ok (named_in given m)) (λ x u.
    if_then (λ (b : Bool). Unit {0}) (AreOf P) (bytes_in given m) (λ depex. module_outputs folder m x.0 x.1 depex) (any_ok (bytes_in given m)) (λ depex v.
    module_made P folder m x.0 x.1 depex (λ t. (c, c)) (λ t. d)))

modules_named : (asks : List (Ask Key)) (folder : List ℕ) (given : List (Pair Key Out)) (modules : List Module) → AreIn (build_module_asks modules) asks
    → IfOk (modules_outputs folder given modules) (AreOf (AskedIn asks))
unfolding modules_outputs
modules_named asks folder given [] sub = none_are (AskedIn asks)
modules_named asks folder given (m ∷ modules) sub =
    next_are (AskedIn asks) (outputs_in folder given m) (modules_outputs folder given modules)
    (module_named asks folder given m (in_first (built_asks m) (build_module_asks modules) asks sub))
    (modules_named asks folder given modules (in_behind (built_asks m) (build_module_asks modules) asks sub))

volumes_named : (asks : List (Ask Key)) (folder : List ℕ) (marks : List Bool) (n : ℕ) (plans : List VolumePlan) → AreIn (steps_from volume_key marks n plans) asks
    → IfOk (volume_outputs folder marks n plans) (AreOf (AskedIn asks))
unfolding volume_outputs steps_from
volumes_named asks folder marks n [] sub = none_are (AskedIn asks)
volumes_named asks folder marks n (plan ∷ plans) sub =
    let b = is_marked marks n in
    let k = volume_key n plan in
    let rest = steps_from volume_key marks (n + 1) plans in
    next_are (AskedIn asks) (image_where b folder plan.head.name _ k) (volume_outputs folder marks (n + 1) plans)
    (image_made (AskedIn asks) b folder plan.head.name _ k (λ t. in_first (step_where b k) rest asks sub (ask.Part k) (wanted_step b k t)))
    (volumes_named asks folder marks (n + 1) plans (in_behind (step_where b k) rest asks sub))

devices_named : (asks : List (Ask Key)) (folder : List ℕ) (marks : List Bool) (n : ℕ) (plans : List DevicePlan) → AreIn (steps_from device_step marks n plans) asks
    → IfOk (device_outputs folder marks n plans) (AreOf (AskedIn asks))
unfolding device_outputs steps_from
devices_named asks folder marks n [] sub = none_are (AskedIn asks)
devices_named asks folder marks n (plan ∷ plans) sub =
    let b = is_marked marks n in
    let k = key.Device n in
    let rest = steps_from device_step marks (n + 1) plans in
    next_are (AskedIn asks) (image_where b folder plan.name _ k) (device_outputs folder marks (n + 1) plans)
    (image_made (AskedIn asks) b folder plan.name _ k (λ t. in_first (step_where b k) rest asks sub (ask.Part k) (wanted_step b k t)))
    (devices_named asks folder marks (n + 1) plans (in_behind (step_where b k) rest asks sub))

vpd_named : (asks : List (Ask Key)) (folder : List ℕ) (vpd : Bool) → AreIn (step_where vpd key.Vpd) asks → IfOk (vpd_outputs vpd folder) (AreOf (AskedIn asks))
unfolding vpd_outputs
vpd_named asks folder false sub = none_are (AskedIn asks)
vpd_named asks folder true sub =
    let P = AskedIn asks in
    let has : Contains asks (ask.Part key.Vpd) = in_one (ask.Part key.Vpd) [] asks sub in
    if_then (λ (o : Output). P o.from o.part) (AreOf P) (file_output folder _ key.Vpd 0) (λ image. and_then (file_output folder _ key.Vpd 1) (λ map_. Ok (image ∷ map_ ∷ [])))
    (file_made P folder _ key.Vpd 0 has) (λ image p.
    if_then (λ (o : Output). P o.from o.part) (AreOf P) (file_output folder _ key.Vpd 1) (λ map_. Ok (image ∷ map_ ∷ [])) (file_made P folder _ key.Vpd 1 has) (λ map_ q.
    two_are P image map_ p q))

report_named_in : (asks : List (Ask Key)) (report : Option (List ℕ)) → AreIn (report_part report) asks → AreOf (AskedIn asks) (report_output report)
report_named_in asks None sub = none_are (AskedIn asks)
report_named_in asks (Some path) sub = one_are (AskedIn asks) (record { path = path; from = key.Report; part = 0 }) (in_one (ask.Part key.Report) [] asks sub)

outputs_named : (vpd : Bool) (folder : List ℕ) (modules : List Module) (flash : FlashDoc) (wanted : Wanted) (report : Option (List ℕ)) (given : List (Pair Key Out))
    → IfOk (outputs_of vpd folder modules flash wanted report given) (AreOf (AskedIn (build_asks vpd modules flash wanted report)))
unfolding outputs_of
outputs_named vpd folder modules flash wanted report given =
    let asks = build_asks vpd modules flash wanted report in
    let P = AskedIn asks in
    let m = build_module_asks modules in
    let vs = steps_from volume_key wanted.volumes 0 flash.volumes in
    let ds = steps_from device_step wanted.devices 0 flash.devices in
    let p = step_where vpd key.Vpd in
    let r = report_part report in
    let all : AreIn (((m ++ (vs ++ ds)) ++ p) ++ r) asks = in_there (ask.Part key.PlatformPcds) (((m ++ (vs ++ ds)) ++ p) ++ r) in
    let left = in_first ((m ++ (vs ++ ds)) ++ p) r asks all in
    let both = in_first (m ++ (vs ++ ds)) p asks left in
    let images = in_behind m (vs ++ ds) asks both in
    let texts_made = modules_outputs folder given modules in
    let volumes_made = volume_outputs folder wanted.volumes 0 flash.volumes in
    let devices_made = device_outputs folder wanted.devices 0 flash.devices in
    let vpd_made = vpd_outputs vpd folder in
    let last = report_output report in
    if_then (AreOf P) (AreOf P) texts_made
    (λ texts. and_then (with_front texts volumes_made) (λ volumes. and_then (with_front volumes devices_made) (λ images. and_then (with_front images vpd_made) (λ outputs. Ok (outputs ++ last)))))
    (modules_named asks folder given modules (in_first m (vs ++ ds) asks both)) (λ texts h.
    if_then (AreOf P) (AreOf P) (with_front texts volumes_made) (λ volumes. and_then (with_front volumes devices_made) (λ images. and_then (with_front images vpd_made) (λ outputs. Ok (outputs ++ last))))
    (front_are P texts volumes_made h (volumes_named asks folder wanted.volumes 0 flash.volumes (in_first vs ds asks images))) (λ volumes h.
    if_then (AreOf P) (AreOf P) (with_front volumes devices_made) (λ images. and_then (with_front images vpd_made) (λ outputs. Ok (outputs ++ last)))
    (front_are P volumes devices_made h (devices_named asks folder wanted.devices 0 flash.devices (in_behind vs ds asks images))) (λ images_made h.
    if_then (AreOf P) (AreOf P) (with_front images_made vpd_made) (λ outputs. Ok (outputs ++ last))
    (front_are P images_made vpd_made h (vpd_named asks folder vpd (in_behind (m ++ (vs ++ ds)) p asks left))) (λ outputs h.
    All-append (λ (o : Output). P o.from o.part) outputs last h (report_named_in asks report (in_behind ((m ++ (vs ++ ds)) ++ p) r asks all))))))

-- What stages come to in a world names steps that the stages ask for.

abbrev gives : World → EdkStages → Result Out Fault
gives w s = run fits (right (meaning_of key_cmp edk) w) s

abbrev NamesReached : World → EdkStages → Type 0
NamesReached w s = (outputs : List Output) → gives w s ≡ Ok (out.All outputs) → AreOf (λ k part. Reaches w (ask.Part k) s) outputs

attempt_named : {A : Type 0} (w : World) (r : Result A Fault) (next : A → EdkStages) → ((x : A) → NamesReached w (next x)) → NamesReached w (attempt r next)
attempt_named w (Ok x) next h = h x
attempt_named w (Err fault) next h = λ outputs e. absurd cc

when_named : (w : World) (b : Bool) (s : EdkStages) → NamesReached w s → NamesReached w (when b s)
when_named w true s h = h
when_named w false s h = λ outputs e. absurd cc

stage_named : (w : World) (asks : List (Ask Key)) (next : List (Pair Key Out) → EdkStages) → NamesReached w (next (given_in w asks)) → NamesReached w (stage asks next)
stage_named w asks next h = λ outputs e.
    let both = fault_ok (fault_asked w asks) (gives w (next (given_in w asks))) (out.All outputs) (sym (stage_run w asks next) ∙ e) in
    All-weaker (λ (o : Output). Reaches w (ask.Part o.from) (next (given_in w asks))) (λ (o : Output). Reaches w (ask.Part o.from) (stage asks next)) (λ o r. inr (both.0, r)) outputs (h outputs both.1)

given_all : (r : Result (List Output) Fault) (outputs : List Output) → given_as out.All r ≡ Ok (out.All outputs) → r ≡ Ok outputs
given_all (Ok xs) outputs e = let same : xs ≡ outputs = cc in ap (λ (l : List Output). Ok l) same
given_all (Err fault) outputs e = absurd cc

last_named : (w : World) (asks : List (Ask Key)) (f : List (Pair Key Out) → Result (List Output) Fault) → ((given : List (Pair Key Out)) → IfOk (f given) (AreOf (AskedIn asks)))
    → NamesReached w (stage asks (λ given. end (given_as out.All (f given))))
last_named w asks f h = λ outputs e.
    let next = λ (given : List (Pair Key Out)). end (given_as out.All (f given)) in
    let both = fault_ok (fault_asked w asks) (given_as out.All (f (given_in w asks))) (out.All outputs) (sym (stage_run w asks next) ∙ e) in
    All-weaker (λ (o : Output). Contains asks (ask.Part o.from)) (λ (o : Output). Reaches w (ask.Part o.from) (stage asks next)) (λ o c. inl c) outputs
    (if_ok (AreOf (AskedIn asks)) (f (given_in w asks)) outputs (given_all (f (given_in w asks)) outputs both.1) (h (given_in w asks)))

given_named : (w : World) (given : List (Pair Key Out)) → NamesReached w (all_given given)
given_named w given =
    attempt_named w (platform_in given) _ (λ platform. attempt_named w (flash_in given) _ (λ flash. attempt_named w (folder_in platform given) _ (λ folder.
    attempt_named w (modules_in platform given) _ (λ modules. attempt_named w (wanted_in flash given) _ (λ wanted. attempt_named w (report_in given) _ (λ report.
    when_named w (fits_u16 (length flash.volumes) && fits_u16 (length flash.devices)) _
    (last_named w (build_asks (has_vpd platform) modules flash wanted report) (outputs_of (has_vpd platform) folder modules flash wanted report) (outputs_named (has_vpd platform) folder modules flash wanted report))))))))

good_given : (r : Result Out Fault) (x : Out) → outcome_of r ≡ Good x → r ≡ Ok x
good_given (Ok y) x e = let same : y ≡ x = cc in ap (λ (o : Out). Ok o) same
good_given (Err fault) x e = absurd cc

-- The build asks for the step that each of its outputs names.
pub outputs_asked : (w : World) (outputs : List Output) → value_in w key.All ≡ Good (out.All outputs)
    → All (λ (o : Output). Asks (meaning_of key_cmp edk) w key.All (ask.Part o.from)) outputs
outputs_asked w outputs e =
    let is : gives w all_stages ≡ Ok (out.All outputs) = good_given (gives w all_stages) (out.All outputs) (sym (value_is key_cmp edk edk_is_bounded w key.All) ∙ e) in
    All-weaker (λ (o : Output). Reaches w (ask.Part o.from) all_stages) (λ (o : Output). Asks (meaning_of key_cmp edk) w key.All (ask.Part o.from))
    (λ o r. reached_asked w (ask.Part o.from) r) outputs (stage_named w all_asks all_given (given_named w (given_in w all_asks)) outputs is)
