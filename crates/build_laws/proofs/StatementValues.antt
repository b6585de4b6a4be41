-- The file of a FILE statement in a world.
use Rattle.std.specs.Prelude.{if◌then◌else◌}
use Rattle.std.specs.Result.{result_err}
use Rattle.std.proofs.Common.{◌≡◌, ℕ, Bool, true, false, List, [], ◌∷◌, ◌++◌, length, map, slice_get, Contains, Option, Some, None, Result, Ok, Err, refl, sym, ap, ◌∙◌}
use Rattle.build_base.specs.First.{and_then, or_else, or_fault, first_of, all_ok}
use Rattle.build_base.specs.World.{World, got}
use Rattle.build_base.specs.declared.fault.Fault.{Fault}
use Rattle.build_base.specs.declared.outside.Got.{Got}
use Rattle.build_base.specs.declared.outside.Got.TheVariants.{File, Absent, TooLong}
use Rattle.doc_types.specs.declared.flash.FlashDoc.{FlashDoc}
use Rattle.doc_types.specs.declared.image.Body.{Body}
use Rattle.doc_types.specs.declared.image.Body.TheVariants as body
use Rattle.doc_types.specs.declared.image.FileImage.{FileImage}
use Rattle.doc_types.specs.declared.image.Part.{Part}
use Rattle.doc_types.specs.declared.volume.FilePlan.{FilePlan}
use Rattle.doc_types.specs.declared.volume.SectionPlan.{SectionPlan}
use Rattle.doc_types.specs.declared.volume.SectionSource.{SectionSource}
use Rattle.doc_types.specs.declared.volume.SectionSource.TheVariants as source
use Rattle.doc_types.specs.declared.volume.VolumePlan.{VolumePlan}
use Rattle.doc_types.specs.declared.volume_head.VolumeHead.{VolumeHead}
use Rattle.ffs_sections.specs.File.{file_of}
use Rattle.step_engine.specs.Meaning.{answer_of, IsWorld}
use Rattle.step_engine.specs.declared.talk.Ask.{Ask}
use Rattle.step_engine.specs.declared.talk.Ask.TheVariants as ask
use Rattle.step_engine.specs.declared.talk.Answer.{Answer}
use Rattle.step_engine.specs.declared.talk.Outcome.{Outcome}
use Rattle.build_stages.specs.Stages.{outcome_of, meaning_of}
use Rattle.build_stages.specs.StagesLaws.{value_is}
use Rattle.build_stages.specs.Writing.{file_of as file_answer}
use Rattle.step_pack.specs.Keys.{key_cmp}
use Rattle.step_pack.specs.declared.key.Key.{Key}
use Rattle.step_pack.specs.declared.key.Key.TheVariants as key
use Rattle.step_pack.specs.declared.out.Out.{Out}
use Rattle.step_pack.specs.declared.out.Out.TheVariants as out
use Rattle.volume_steps.specs.Asks.{item_asks}
use Rattle.file_steps.specs.Asks.{source_file, section_files}
use Rattle.file_steps.specs.Asks.{source_volume, section_volumes, body_asks, file_asks}
use Rattle.step_answers.specs.Volumes.{is_based, step_by, volume_step, fits_u16, volume_at}
use Rattle.step_answers.specs.Contents.{required, file_absent, section_absent, file_content, volume_content, volume_given}
use Rattle.file_steps.specs.Files.{body_given, file_name, image_plan, file_given}
use Rattle.file_steps.specs.Parts.{as_is, file_shaped, content_of, header_guid, part_with, part_of, parts_of, source_checked, files_checked}
use Rattle.file_steps.specs.declared.parts.Shaped.{Shaped}
use Rattle.volume_steps.specs.VolumeTrees.{image_by, volume_stages}
use Rattle.step_answers.specs.Readers.{given_as}
use Rattle.build_rules.specs.Rules.{edk, value_in}
use Rattle.build_rules.specs.RulesBounds.{edk_is_bounded}
use Rattle.build_rules.specs.Values.{flash_value}
use Rattle.build_laws.specs.ImageValues.{bytes_got, file_bytes, image_of, nested_image, nested_fault, held_fault, section_content, section_part, body_value, statement_value}
use Rattle.build_rules.proofs.Asked.{given_in, fault_asked, by_answers, AreIn, in_whole, in_here, in_one, in_first, in_behind, file_told, step_told, fault_append, fault_each, got_no_fault, or_and, checked_and}
use Rattle.build_laws.proofs.FlashShape.{items_fit}
use Rattle.build_laws.proofs.ImageValues.{gives, after_flash, found_run, passed_run, last_run, part_fault}
use Rattle.build_rules.proofs.FirstFaults.{none_of, or_same, fronts_same}

-- A volume by the answers of its step: an image or a fault.

abbrev pub placed_plan : World → Bool → ℕ → VolumePlan → Result (List ℕ) Fault
placed_plan w moved v plan = by_answers w (item_asks v plan.items) (image_by moved v plan)

abbrev pub placed_volume : World → Bool → ℕ → Result (List ℕ) Fault
placed_volume w moved v = and_then (flash_value w) (λ flash. and_then (volume_at flash v) (placed_plan w moved v))

pub placed_run : (w : World) (moved : Bool) (v : ℕ) → IsWorld (meaning_of key_cmp edk) w → gives w (volume_stages moved v) ≡ given_as out.Volume (placed_volume w moved v)
placed_run w moved v e =
    after_flash w e out.Volume _ (λ flash. and_then (volume_at flash v) (placed_plan w moved v)) (λ flash shape.
    found_run w out.Volume (volume_at flash v) _ (placed_plan w moved v) (λ plan found.
    passed_run w (fits_u16 (length plan.items)) _ (items_fit flash v plan shape found)
    ∙ last_run w out.Volume (item_asks v plan.items) (image_by moved v plan)))

-- a step gives an image or a fault
abbrev IsImage : World → Key → Type 0
IsImage w k = (r : Result (List ℕ) Fault) × (value_in w k ≡ outcome_of (given_as out.Volume r))

stands : (w : World) (v : ℕ) → IsWorld (meaning_of key_cmp edk) w → IsImage w (key.Volume v)
stands w v e = (placed_volume w false v, value_is key_cmp edk edk_is_bounded w (key.Volume v) ∙ ap outcome_of (placed_run w false v e))

moves : (w : World) (v : ℕ) → IsWorld (meaning_of key_cmp edk) w → IsImage w (key.Based v)
moves w v e = (placed_volume w true v, value_is key_cmp edk edk_is_bounded w (key.Based v) ∙ ap outcome_of (placed_run w true v e))

step_image : (w : World) (n : ℕ) (plan : Option VolumePlan) → IsWorld (meaning_of key_cmp edk) w → IsImage w (step_by n plan)
step_image w n None e = stands w n e
step_image w n (Some plan) e =
    elim (is_based plan.head) as (λ b. IsImage w (if b then key.Based n else key.Volume n)) [
      | true ↦ moves w n e
      | false ↦ stands w n e
    ]

pub image_back : (r : Result (List ℕ) Fault) → image_of (outcome_of (given_as out.Volume r)) ≡ r
image_back (Ok image) = refl
image_back (Err fault) = refl

nested_step : (w : World) (volumes : List VolumePlan) (n : ℕ) → IsWorld (meaning_of key_cmp edk) w → value_in w (volume_step volumes n) ≡ outcome_of (given_as out.Volume (nested_image w volumes n))
nested_step w volumes n e =
    let h = step_image w n (slice_get volumes n) e in
    h.1 ∙ ap (λ (r : Result (List ℕ) Fault). outcome_of (given_as out.Volume r)) (sym (ap (λ (v : Outcome Out). image_of v) h.1 ∙ image_back h.0))

-- What is told of files and of volumes.

got_told : (absent : Fault) (path : List ℕ) (g : Got) → and_then (file_answer (Some (answer_of g))) (required absent path) ≡ bytes_got absent path g
got_told absent path (File bytes) = refl
got_told absent path Absent = refl
got_told absent path TooLong = refl

pub bytes_told : (w : World) (asks : List (Ask Key)) (absent : Fault) (path : List ℕ) → Contains asks (ask.File path) → file_content (given_in w asks) absent path ≡ file_bytes w absent path
bytes_told w asks absent path c =
    ap (λ (r : Result (Answer Out) Fault). and_then r (required absent path)) (file_told w asks path c) ∙ got_told absent path (got w path)

pub image_told : (w : World) (asks : List (Ask Key)) (volumes : List VolumePlan) (n : ℕ) → IsWorld (meaning_of key_cmp edk) w → fault_asked w asks ≡ None → Contains asks (ask.Part (volume_step volumes n))
    → volume_content (given_in w asks) (volume_step volumes n) ≡ nested_image w volumes n
image_told w asks volumes n e none c =
    step_told w asks (volume_step volumes n) out.Volume (nested_image w volumes n) volume_given none c (nested_step w volumes n e) (λ image found. refl)

-- Faults of steps.

pub file_fault : (w : World) (path : List ℕ) → fault_asked w (ask.File path ∷ []) ≡ None
unfolding fault_asked
file_fault w path = ap (λ (q : Option Fault). or_else q None) (got_no_fault (got w path))

source_fault : (w : World) (s : SectionSource) → fault_asked w (source_file s) ≡ None
unfolding fault_asked
source_fault w (source.Tree path) = file_fault w path
source_fault w (source.Template text) = refl
source_fault w (source.Volume n) = refl
source_fault w (source.Words text) = refl
source_fault w (source.Refused text) = refl

volume_fault : (w : World) (volumes : List VolumePlan) → IsWorld (meaning_of key_cmp edk) w → (s : SectionSource) → fault_asked w (source_volume volumes s) ≡ nested_fault w volumes s
unfolding fault_asked
volume_fault w volumes e (source.Tree path) = refl
volume_fault w volumes e (source.Template text) = refl
volume_fault w volumes e (source.Volume n) = part_fault w (volume_step volumes n) out.Volume (nested_image w volumes n) (nested_step w volumes n e)
volume_fault w volumes e (source.Words text) = refl
volume_fault w volumes e (source.Refused text) = refl

abbrev nested_faults : World → List VolumePlan → List SectionPlan → Option Fault
nested_faults w volumes sections = first_of (map (λ section. nested_fault w volumes section.source) sections)

asked_fault : (w : World) (volumes : List VolumePlan) → IsWorld (meaning_of key_cmp edk) w → (sections : List SectionPlan)
    → fault_asked w (section_files sections ++ section_volumes volumes sections) ≡ nested_faults w volumes sections
asked_fault w volumes e sections =
    fault_append w (section_files sections) (section_volumes volumes sections)
    ∙ ap (λ (q : Option Fault). or_else q (fault_asked w (section_volumes volumes sections)))
    (fault_each w (λ (section : SectionPlan). source_file section.source) (λ section. None) (λ section. source_fault w section.source) sections ∙ none_of sections)
    ∙ fault_each w (λ (section : SectionPlan). source_volume volumes section.source) (λ section. nested_fault w volumes section.source) (λ section. volume_fault w volumes e section.source) sections

-- Whether files are there.

abbrev held_faults : World → List SectionPlan → Option Fault
held_faults w sections = first_of (map (λ section. held_fault w section.at section.source) sections)

checked : (r : Result (List ℕ) Fault) → and_then {B = Unit {0}} r (λ bytes. Ok tt) ≡ or_fault {T = Unit {0}} (result_err r) (Ok tt)
checked (Ok bytes) = refl
checked (Err fault) = refl

pub or_or : {A : Type 0} (p q : Option Fault) (r : Result A Fault) → or_fault p (or_fault q r) ≡ or_fault (or_else p q) r
or_or None q r = refl
or_or (Some fault) q r = refl

source_same : (w : World) (asks : List (Ask Key)) (section : SectionPlan) (s : SectionSource) → AreIn (source_file s) asks
    → source_checked (given_in w asks) section s ≡ or_fault (held_fault w section.at s) (Ok tt)
source_same w asks section (source.Tree path) h =
    ap (λ (r : Result (List ℕ) Fault). and_then r (λ bytes. Ok tt)) (bytes_told w asks (section_absent section.at path) path (in_one (ask.File path) [] asks h))
    ∙ checked (file_bytes w (section_absent section.at path) path)
source_same w asks section (source.Template text) h = refl
source_same w asks section (source.Volume n) h = refl
source_same w asks section (source.Words text) h = refl
source_same w asks section (source.Refused text) h = refl

checked_same : (w : World) (asks : List (Ask Key)) (sections : List SectionPlan) → AreIn (section_files sections) asks
    → files_checked (given_in w asks) sections ≡ or_fault (held_faults w sections) (Ok tt)
unfolding files_checked
checked_same w asks [] h = refl
checked_same w asks (section ∷ sections) h =
    let more : Result (Unit {0}) Fault = files_checked (given_in w asks) sections in
    let fault : Option Fault = held_fault w section.at section.source in
    ap (λ (r : Result (Unit {0}) Fault). and_then r (λ (u : Unit {0}). more)) (source_same w asks section section.source (in_first (source_file section.source) (section_files sections) asks h))
    ∙ checked_and fault more
    ∙ ap (λ (r : Result (Unit {0}) Fault). or_fault fault r) (checked_same w asks sections (in_behind (source_file section.source) (section_files sections) asks h))
    ∙ or_or fault (held_faults w sections) (Ok tt)

-- What sections hold.

content_same : (w : World) (asks : List (Ask Key)) (volumes : List VolumePlan) (section : SectionPlan) → IsWorld (meaning_of key_cmp edk) w → fault_asked w asks ≡ None → (s : SectionSource)
    → AreIn (source_file s) asks → AreIn (source_volume volumes s) asks → content_of volumes (given_in w asks) section s ≡ section_content w volumes section s
content_same w asks volumes section e none (source.Tree path) h k =
    ap (λ (r : Result (List ℕ) Fault). and_then r (file_shaped section.kind path))
    (bytes_told w asks (section_absent section.at path) path (in_one (ask.File path) [] asks h))
content_same w asks volumes section e none (source.Template text) h k = refl
content_same w asks volumes section e none (source.Volume n) h k =
    ap (λ (r : Result (List ℕ) Fault). and_then r (λ bytes. Ok (as_is bytes)))
    (image_told w asks volumes n e none (in_one (ask.Part (volume_step volumes n)) [] asks k))
content_same w asks volumes section e none (source.Words text) h k = refl
content_same w asks volumes section e none (source.Refused text) h k = refl

parts_same : (w : World) (asks : List (Ask Key)) (flash : FlashDoc) → IsWorld (meaning_of key_cmp edk) w → fault_asked w asks ≡ None → (sections : List SectionPlan)
    → AreIn (section_files sections) asks → AreIn (section_volumes flash.volumes sections) asks → parts_of flash (given_in w asks) sections ≡ all_ok (map (section_part w flash) sections)
unfolding parts_of part_of
parts_same w asks flash e none [] h k = refl
parts_same w asks flash e none (section ∷ sections) h k =
    let s = section.source in
    fronts_same (part_of flash (given_in w asks) section) (section_part w flash section) (parts_of flash (given_in w asks) sections) (all_ok (map (section_part w flash) sections))
    (ap (λ (r : Result Shaped Fault). and_then r (λ content. and_then (header_guid section.kind section.guid) (λ guid. Ok (part_with flash section content guid))))
    (content_same w asks flash.volumes section e none s
    (in_first (source_file s) (section_files sections) asks h)
    (in_first (source_volume flash.volumes s) (section_volumes flash.volumes sections) asks k)))
    (parts_same w asks flash e none sections
    (in_behind (source_file s) (section_files sections) asks h)
    (in_behind (source_volume flash.volumes s) (section_volumes flash.volumes sections) asks k))

-- The file.

body_same : (w : World) (flash : FlashDoc) (plan : FilePlan) → IsWorld (meaning_of key_cmp edk) w → (whole : Option (List ℕ))
    → by_answers w (body_asks flash.volumes plan.sections whole) (body_given flash plan whole) ≡ body_value w flash plan.sections whole
body_same w flash plan e (Some path) =
    let asks : List (Ask Key) = ask.File path ∷ [] in
    let finish : List ℕ → Result Body Fault = λ bytes. Ok (body.Whole bytes) in
    or_same (fault_asked w asks) None (and_then (file_content (given_in w asks) (file_absent path) path) finish) (and_then (file_bytes w (file_absent path) path) finish)
    (file_fault w path) (λ none. ap (λ (r : Result (List ℕ) Fault). and_then r finish) (bytes_told w asks (file_absent path) path (in_here (ask.File path) [])))
body_same w flash plan e None =
    let sections = plan.sections in
    let files = section_files sections in
    let volumes = section_volumes flash.volumes sections in
    let asks = files ++ volumes in
    let given = given_in w asks in
    let finish : List Part → Result Body Fault = λ parts. Ok (body.Sections parts) in
    let faults = asked_fault w flash.volumes e sections in
    or_same (fault_asked w asks) (nested_faults w flash.volumes sections)
    (and_then (files_checked given sections) (λ checked. and_then (parts_of flash given sections) finish))
    (and_then (or_fault (held_faults w sections) (all_ok (map (section_part w flash) sections))) finish)
    faults
    (λ none.
    ap (λ (r : Result (Unit {0}) Fault). and_then r (λ checked. and_then (parts_of flash given sections) finish))
    (checked_same w asks sections (in_first files volumes asks (in_whole asks)))
    ∙ checked_and (held_faults w sections) (and_then (parts_of flash given sections) finish)
    ∙ or_and (held_faults w sections) (parts_of flash given sections) finish
    ∙ ap (λ (r : Result (List Part) Fault). and_then (or_fault (held_faults w sections) r) finish)
    (parts_same w asks flash e (faults ∙ none) sections (in_first files volumes asks (in_whole asks)) (in_behind files volumes asks (in_whole asks))))
    ∙ or_and (nested_faults w flash.volumes sections) (or_fault (held_faults w sections) (all_ok (map (section_part w flash) sections))) finish

pub statement_same : (w : World) (flash : FlashDoc) (head : VolumeHead) (plan : FilePlan) → IsWorld (meaning_of key_cmp edk) w
    → by_answers w (file_asks flash.volumes plan) (file_given flash head plan) ≡ statement_value w flash head plan
unfolding file_given
statement_same w flash head plan e =
    let named : Body → Result FileImage Fault = λ content. and_then (file_name plan.guid) (λ name. file_of (image_plan head plan name content)) in
    or_and (fault_asked w (file_asks flash.volumes plan)) (body_given flash plan plan.whole (given_in w (file_asks flash.volumes plan))) named
    ∙ ap (λ (r : Result Body Fault). and_then r named) (body_same w flash plan e plan.whole)
