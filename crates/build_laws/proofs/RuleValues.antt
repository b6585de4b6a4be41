-- The files of INF and APRIORI statements in a world.
use Rattle.std.specs.List.{filter_map}
use Rattle.std.specs.Prelude.{if◌then◌else◌}
use Rattle.std.specs.Result.{result_err}
use Rattle.std.proofs.Common.{◌≡◌, ℕ, Bool, true, false, List, [], ◌∷◌, map, Contains, Option, Some, None, Result, Ok, Err, refl, ap, ◌∙◌, arith}
use Rattle.build_base.specs.First.{and_then, or_else, or_fault, first_of, unless, with_front, all_ok}
use Rattle.build_base.specs.World.{World, got, field}
use Rattle.build_base.specs.declared.fault.Fault.{Fault}
use Rattle.build_base.specs.declared.fault.Place.{Place}
use Rattle.build_base.specs.declared.guid.Guid.{Guid}
use Rattle.build_base.specs.declared.outside.Got.{Got}
use Rattle.build_base.specs.declared.outside.Got.TheVariants.{File, Absent, TooLong}
use Rattle.doc_types.specs.declared.arch.Arch.{Arch}
use Rattle.doc_types.specs.declared.flash.FlashDoc.{FlashDoc}
use Rattle.doc_types.specs.declared.image.Body.TheVariants as body
use Rattle.doc_types.specs.declared.image.FileImage.{FileImage}
use Rattle.doc_types.specs.declared.image.Part.{Part}
use Rattle.doc_types.specs.declared.module.InfDoc.{InfDoc}
use Rattle.doc_types.specs.declared.platform.PlatformDoc.{PlatformDoc}
use Rattle.doc_types.specs.declared.volume.InfLine.{InfLine}
use Rattle.doc_types.specs.declared.volume.Member.{Member}
use Rattle.doc_types.specs.declared.volume.Member.TheVariants as member
use Rattle.doc_types.specs.declared.volume.SectionPlan.{SectionPlan}
use Rattle.doc_types.specs.declared.volume.SectionSource.{SectionSource}
use Rattle.doc_types.specs.declared.volume.SectionSource.TheVariants as source
use Rattle.doc_types.specs.declared.volume_head.VolumeHead.{VolumeHead}
use Rattle.ffs_sections.specs.File.{file_of}
use Rattle.rule_choice.specs.Modules.{inf_arch}
use Rattle.step_engine.specs.Meaning.{answer_of, IsWorld}
use Rattle.step_engine.specs.declared.talk.Ask.{Ask}
use Rattle.step_engine.specs.declared.talk.Ask.TheVariants as ask
use Rattle.step_engine.specs.declared.talk.Answer.{Answer}
use Rattle.step_engine.specs.declared.talk.Answer.TheVariants as answer
use Rattle.step_engine.specs.declared.talk.Outcome.{Outcome}
use Rattle.build_stages.specs.Stages.{fault_in, meaning_of}
use Rattle.build_stages.specs.Writing.{file_of as file_answer, given_field, given_file, given_part}
use Rattle.step_pack.specs.Keys.{key_cmp}
use Rattle.step_pack.specs.declared.key.Key.{Key}
use Rattle.step_pack.specs.declared.key.Key.TheVariants as key
use Rattle.step_pack.specs.declared.out.Out.{Out}
use Rattle.step_pack.specs.declared.out.Out.TheVariants as out
use Rattle.step_answers.specs.Readers.{inf_of_out, inf_in, platform_of_out, platform_in}
use Rattle.step_answers.specs.Settings.{arches_built}
use Rattle.file_steps.specs.Files.{image_plan}
use Rattle.file_steps.specs.declared.plans.ModulePlan.{ModulePlan}
use Rattle.file_steps.specs.Apriori.{name_described, name_below, line_name, member_name, apriori_plan, apriori_given}
use Rattle.file_steps.specs.ModuleAsks.{is_path_of, line_asks, member_asks, members_asks, source_file, section_files, takes_depex, plan_asks}
use Rattle.file_steps.specs.ModuleFiles.{sections_given, module_given}
use Rattle.step_answers.specs.Settings.{arches_built_in}
use Rattle.file_steps.specs.Modules.{folder_in, plan_described, plan_below, plan_given}
use Rattle.file_steps.specs.Names.{module_guid}
use Rattle.step_answers.specs.Folders.{build_folder}
use Rattle.file_steps.specs.Plans.{module_of, module_plan}
use Rattle.file_steps.specs.Sections.{got_checked, source_checked, files_checked, depex_of_out, own_expression, expression_fault, expression_part, got_part, source_part, part_before, parts_from}
use Rattle.build_rules.specs.Rules.{edk, value_in}
use Rattle.build_rules.specs.Values.{inf_value, platform_value}
use Rattle.build_laws.specs.TextValues.{depex_value}
use Rattle.build_laws.specs.ImageValues.{plan_value, own_value, got_fault, required_fault, part_got, rule_part, rule_parts, planned_file, member_fault, member_value, apriori_value}
use Rattle.build_rules.proofs.Asked.{answers_in, given_in, fault_asked, by_answers, AreIn, in_whole, in_first, in_behind, in_one, field_told, file_told, step_told, each_told, or_err, fault_append, fault_each, got_no_fault, step_fault, or_value, else_none}
use Rattle.build_laws.proofs.DescriptionLemmas.{described_path}
use Rattle.build_rules.proofs.FirstFaults.{none_of, or_same}
use Rattle.build_laws.proofs.TextLemmas.{depex_is}
use Rattle.build_laws.proofs.ToldLemmas.{named_path}
use Rattle.build_rules.proofs.ValueLemmas.{inf_is, platform_is}

-- What a statement asks of its module.

line_fault : (w : World) (line : InfLine) → IsWorld (meaning_of key_cmp edk) w → fault_asked w (line_asks line) ≡ or_else (result_err (platform_value w)) (result_err (inf_value w line.inf))
unfolding fault_asked
line_fault w line e =
    ap (λ (q : Option Fault). or_else (fault_in (answer.Part (value_in w key.Platform))) q) (else_none (fault_in (answer.Part (value_in w (key.Inf line.inf)))))
    ∙ ap (λ (q : Option Fault). or_else q (fault_in (answer.Part (value_in w (key.Inf line.inf))))) (ap (λ (v : Outcome Out). fault_in (answer.Part v)) (platform_is w e) ∙ step_fault out.Platform (platform_value w))
    ∙ ap (λ (q : Option Fault). or_else (result_err (platform_value w)) q) (ap (λ (v : Outcome Out). fault_in (answer.Part v)) (inf_is w line.inf) ∙ step_fault out.Inf (inf_value w line.inf))

platform_read : (w : World) (asks : List (Ask Key)) → IsWorld (meaning_of key_cmp edk) w → fault_asked w asks ≡ None → Contains asks (ask.Part key.Platform)
    → platform_in (given_in w asks) ≡ platform_value w
platform_read w asks e none c = step_told w asks key.Platform out.Platform (platform_value w) platform_of_out none c (platform_is w e) (λ platform h. refl)

inf_read : (w : World) (asks : List (Ask Key)) (path : List ℕ) → fault_asked w asks ≡ None → Contains asks (ask.Part (key.Inf path)) → inf_in (given_in w asks) path ≡ inf_value w path
unfolding inf_in
inf_read w asks path none c =
    step_told w asks (key.Inf path) out.Inf (inf_value w path) (inf_of_out path) none c (inf_is w path) (λ inf h. named_path path inf (described_path w path inf h))

arches_read : (w : World) (asks : List (Ask Key)) (platform : PlatformDoc) → Contains asks (ask.Field 1) → arches_built_in platform (given_in w asks) ≡ arches_built platform (field w 1)
arches_read w asks platform c = ap (λ (r : Result (List ℕ) Fault). and_then r (arches_built platform)) (field_told w asks 1 c)

folder_read : (w : World) (asks : List (Ask Key)) (platform : PlatformDoc) → Contains asks (ask.Field 2) → Contains asks (ask.Field 3)
    → folder_in platform (given_in w asks) ≡ Ok (build_folder platform.output (field w 2) (field w 3))
unfolding folder_in
folder_read w asks platform target tag =
    ap (λ (r : Result (List ℕ) Fault). and_then r (λ target. and_then (given_field (given_in w asks) 3) (λ tag. Ok (build_folder platform.output target tag)))) (field_told w asks 2 target)
    ∙ ap (λ (r : Result (List ℕ) Fault). and_then r (λ tag. Ok (build_folder platform.output (field w 2) tag))) (field_told w asks 3 tag)

then_same : {A B : Type 0} (r s : Result A Fault) (f g : A → Result B Fault) → r ≡ s → ((x : A) → f x ≡ g x) → and_then r f ≡ and_then s g
then_same {A} {B} r s f g e h =
    ap (λ (t : Result A Fault). and_then t f) e
    ∙ elim s as (λ t. and_then t f ≡ and_then t g) [
      | Ok x ↦ h x
      | Err fault ↦ refl
    ]

-- what is made of the platform, the module's description and the architectures
line_read : {A : Type 0} (w : World) (asks : List (Ask Key)) (line : InfLine) (f g : PlatformDoc → InfDoc → List Arch → Result A Fault) → IsWorld (meaning_of key_cmp edk) w
    → fault_asked w asks ≡ None → AreIn (line_asks line) asks → ((platform : PlatformDoc) (inf : InfDoc) (arches : List Arch) → f platform inf arches ≡ g platform inf arches)
    → and_then (platform_in (given_in w asks)) (λ platform. and_then (inf_in (given_in w asks) line.inf) (λ inf. and_then (arches_built_in platform (given_in w asks)) (f platform inf)))
    ≡ and_then (platform_value w) (λ platform. and_then (inf_value w line.inf) (λ inf. and_then (arches_built platform (field w 1)) (g platform inf)))
line_read w asks line f g e none sub h =
    let given = given_in w asks in
    then_same (platform_in given) (platform_value w)
    (λ platform. and_then (inf_in given line.inf) (λ inf. and_then (arches_built_in platform given) (f platform inf)))
    (λ platform. and_then (inf_value w line.inf) (λ inf. and_then (arches_built platform (field w 1)) (g platform inf)))
    (platform_read w asks e none (sub (ask.Part key.Platform) (0, omega arith, refl))) (λ platform.
    then_same (inf_in given line.inf) (inf_value w line.inf) (λ inf. and_then (arches_built_in platform given) (f platform inf)) (λ inf. and_then (arches_built platform (field w 1)) (g platform inf))
    (inf_read w asks line.inf none (sub (ask.Part (key.Inf line.inf)) (1, omega arith, refl))) (λ inf.
    then_same (arches_built_in platform given) (arches_built platform (field w 1)) (f platform inf) (g platform inf) (arches_read w asks platform (sub (ask.Field 1) (2, omega arith, refl))) (h platform inf)))

-- The plan of a module's file.

plan_read : (w : World) (asks : List (Ask Key)) (flash : FlashDoc) (line : InfLine) → IsWorld (meaning_of key_cmp edk) w → fault_asked w asks ≡ None → AreIn (line_asks line) asks
    → plan_given flash line (given_in w asks) ≡ plan_value w flash line
unfolding plan_given plan_below plan_described
plan_read w asks flash line e none sub =
    line_read w asks line (λ platform inf arches. and_then (folder_in platform (given_in w asks)) (λ folder. module_plan flash line platform arches inf folder))
    (λ platform inf arches. module_plan flash line platform arches inf (build_folder platform.output (field w 2) (field w 3))) e none sub (λ platform inf arches.
    ap (λ (r : Result (List ℕ) Fault). and_then r (λ folder. module_plan flash line platform arches inf folder))
    (folder_read w asks platform (sub (ask.Field 2) (3, omega arith, refl)) (sub (ask.Field 3) (4, omega arith, refl))))

both_err : {A B C : Type 0} (p : Result A Fault) (i : Result B Fault) (f : A → B → Result C Fault)
    → or_fault (or_else (result_err p) (result_err i)) (and_then p (λ x. and_then i (f x))) ≡ and_then p (λ x. and_then i (f x))
both_err (Ok x) i f = or_err i (f x)
both_err (Err fault) i f = refl

pub plan_same : (w : World) (flash : FlashDoc) (line : InfLine) → IsWorld (meaning_of key_cmp edk) w → by_answers w (line_asks line) (plan_given flash line) ≡ plan_value w flash line
plan_same w flash line e =
    let asks = line_asks line in
    or_same (fault_asked w asks) (fault_asked w asks) (plan_given flash line (given_in w asks)) (plan_value w flash line) refl (λ none. plan_read w asks flash line e none (in_whole asks))
    ∙ ap (λ (q : Option Fault). or_fault q (plan_value w flash line)) (line_fault w line e)
    ∙ both_err (platform_value w) (inf_value w line.inf) (λ platform inf. and_then (arches_built platform (field w 1)) (λ arches.
    module_plan flash line platform arches inf (build_folder platform.output (field w 2) (field w 3))))

-- Whether the files of sections are there.

file_fault : (w : World) (depex : List ℕ) (s : SectionSource) → fault_asked w (source_file depex s) ≡ None
unfolding fault_asked
file_fault w depex (source.Tree path) =
    elim (is_path_of depex path) as (λ b. first_of (map fault_in (answers_in w (if b then [] else ask.File path ∷ []))) ≡ None) [
      | true ↦ refl
      | false ↦ ap (λ (q : Option Fault). or_else q None) (got_no_fault (got w path))
    ]
file_fault w depex (source.Template text) = refl
file_fault w depex (source.Volume n) = refl
file_fault w depex (source.Words text) = refl
file_fault w depex (source.Refused text) = refl

abbrev required_faults : World → List ℕ → List SectionPlan → List SectionPlan → Option Fault
required_faults w depex all sections = first_of (map (λ section. required_fault w depex all section.source) sections)

unless_and : {B : Type 0} (q : Option Fault) (s : Result B Fault) → and_then (unless q tt) (λ (u : Unit {0}). s) ≡ or_fault q s
unless_and None s = refl
unless_and (Some fault) s = refl

unless_both : (p q : Option Fault) → and_then (unless {T = Unit {0}} p tt) (λ u. unless q tt) ≡ unless {T = Unit {0}} (or_else p q) tt
unless_both None q = refl
unless_both (Some fault) q = refl

got_same : (all : List SectionPlan) (path : List ℕ) (g : Got) → and_then (file_answer {O = Out} (Some (answer_of g))) (got_checked all path) ≡ unless (got_fault all path g) tt
got_same all path (File bytes) = refl
got_same all path Absent = refl
got_same all path TooLong = refl

source_same : (w : World) (depex : List ℕ) (asks : List (Ask Key)) (all : List SectionPlan) (s : SectionSource) → AreIn (source_file depex s) asks
    → source_checked depex (given_in w asks) all s ≡ unless (required_fault w depex all s) tt
source_same w depex asks all (source.Tree path) =
    elim (is_path_of depex path) as (λ b. AreIn (if b then [] else ask.File path ∷ []) asks
    → (if b then Ok tt else and_then (given_file (given_in w asks) path) (got_checked all path)) ≡ unless (if b then None else got_fault all path (got w path)) tt) [
      | true ↦ λ sub. refl
      | false ↦ λ sub.
          ap (λ (r : Result (Answer Out) Fault). and_then r (got_checked all path)) (file_told w asks path (in_one (ask.File path) [] asks sub)) ∙ got_same all path (got w path)
    ]
source_same w depex asks all (source.Template text) = λ sub. refl
source_same w depex asks all (source.Volume n) = λ sub. refl
source_same w depex asks all (source.Words text) = λ sub. refl
source_same w depex asks all (source.Refused text) = λ sub. refl

checked_same : (w : World) (depex : List ℕ) (asks : List (Ask Key)) (all sections : List SectionPlan) → AreIn (section_files depex sections) asks
    → files_checked depex (given_in w asks) all sections ≡ unless (required_faults w depex all sections) tt
unfolding files_checked
checked_same w depex asks all [] sub = refl
checked_same w depex asks all (section ∷ sections) sub =
    let own = source_file depex section.source in
    let more = section_files depex sections in
    ap (λ (r : Result (Unit {0}) Fault). and_then r (λ (u : Unit {0}). files_checked depex (given_in w asks) all sections)) (source_same w depex asks all section.source (in_first own more asks sub))
    ∙ ap (λ (r : Result (Unit {0}) Fault). and_then (unless (required_fault w depex all section.source) tt) (λ (u : Unit {0}). r)) (checked_same w depex asks all sections (in_behind own more asks sub))
    ∙ unless_both (required_fault w depex all section.source) (required_faults w depex all sections)

-- The sections that are there.

got_told : (section : SectionPlan) (path : List ℕ) (g : Got) → and_then (file_answer {O = Out} (Some (answer_of g))) (got_part section path) ≡ part_got section path g
got_told section path (File bytes) = refl
got_told section path Absent = refl
got_told section path TooLong = refl

part_same : (w : World) (depex expression : List ℕ) (asks : List (Ask Key)) (section : SectionPlan) (s : SectionSource) → AreIn (source_file depex s) asks
    → source_part depex expression (given_in w asks) section s ≡ rule_part w depex expression section s
part_same w depex expression asks section (source.Tree path) =
    elim (is_path_of depex path) as (λ b. AreIn (if b then [] else ask.File path ∷ []) asks
    → (if b then expression_part section path expression else and_then (given_file (given_in w asks) path) (got_part section path))
    ≡ (if b then expression_part section path expression else part_got section path (got w path))) [
      | true ↦ λ sub. refl
      | false ↦ λ sub.
          ap (λ (r : Result (Answer Out) Fault). and_then r (got_part section path)) (file_told w asks path (in_one (ask.File path) [] asks sub)) ∙ got_told section path (got w path)
    ]
part_same w depex expression asks section (source.Template text) = λ sub. refl
part_same w depex expression asks section (source.Volume n) = λ sub. refl
part_same w depex expression asks section (source.Words text) = λ sub. refl
part_same w depex expression asks section (source.Refused text) = λ sub. refl

abbrev those : List (Option Part) → Result (List Part) Fault
those parts = Ok (filter_map (λ part. part) parts)

before_some : (part : Option Part) (t : Result (List (Option Part)) Fault) → part_before part (and_then t those) ≡ and_then (with_front (part ∷ []) t) those
before_some None (Ok parts) = refl
before_some None (Err fault) = refl
before_some (Some part) (Ok parts) = refl
before_some (Some part) (Err fault) = refl

before_same : (r : Result (Option Part) Fault) (t : Result (List (Option Part)) Fault)
    → and_then r (λ part. part_before part (and_then t those)) ≡ and_then (and_then r (λ part. with_front (part ∷ []) t)) those
before_same (Ok part) t = before_some part t
before_same (Err fault) t = refl

abbrev rule_list : World → List ℕ → List ℕ → List SectionPlan → Result (List (Option Part)) Fault
rule_list w depex expression sections = all_ok (map (λ section. rule_part w depex expression section section.source) sections)

parts_same : (w : World) (depex expression : List ℕ) (asks : List (Ask Key)) (sections : List SectionPlan) → AreIn (section_files depex sections) asks
    → parts_from depex expression (given_in w asks) sections ≡ and_then (rule_list w depex expression sections) those
unfolding parts_from
parts_same w depex expression asks [] sub = refl
parts_same w depex expression asks (section ∷ sections) sub =
    let own = source_file depex section.source in
    let more = section_files depex sections in
    ap (λ (r : Result (Option Part) Fault). and_then r (λ part. part_before part (parts_from depex expression (given_in w asks) sections)))
    (part_same w depex expression asks section section.source (in_first own more asks sub))
    ∙ ap (λ (r : Result (List Part) Fault). and_then (rule_part w depex expression section section.source) (λ part. part_before part r))
    (parts_same w depex expression asks sections (in_behind own more asks sub))
    ∙ before_same (rule_part w depex expression section section.source) (rule_list w depex expression sections)

-- The module's own expression.

abbrev own_asks : ModulePlan → List (Ask Key)
own_asks plan = if takes_depex plan.depex plan.file.sections then ask.Part (key.Depex plan.«module») ∷ [] else []

own_fault : (w : World) (plan : ModulePlan) → IsWorld (meaning_of key_cmp edk) w → fault_asked w (own_asks plan) ≡ result_err (own_value w plan)
unfolding fault_asked
own_fault w plan e =
    elim (takes_depex plan.depex plan.file.sections)
    as (λ b. first_of (map fault_in (answers_in w (if b then ask.Part (key.Depex plan.«module») ∷ [] else []))) ≡ result_err (if b then depex_value w plan.«module» else Ok [])) [
      | true ↦ else_none (fault_in (answer.Part (value_in w (key.Depex plan.«module»))))
          ∙ ap (λ (v : Outcome Out). fault_in (answer.Part v)) (depex_is w plan.«module» e)
          ∙ step_fault out.Depex (depex_value w plan.«module»)
      | false ↦ refl
    ]

own_same : (w : World) (plan : ModulePlan) (asks : List (Ask Key)) → IsWorld (meaning_of key_cmp edk) w → fault_asked w asks ≡ None → AreIn (own_asks plan) asks
    → own_expression plan (given_in w asks) ≡ own_value w plan
unfolding own_expression
own_same w plan asks e none =
    let k = key.Depex plan.«module» in
    elim (takes_depex plan.depex plan.file.sections)
    as (λ b. AreIn (if b then ask.Part k ∷ [] else []) asks
    → (if b then and_then (given_part key_cmp (given_in w asks) k) depex_of_out else Ok []) ≡ (if b then depex_value w plan.«module» else Ok [])) [
      | true ↦ λ sub. step_told w asks k out.Depex (depex_value w plan.«module») depex_of_out none (in_one (ask.Part k) [] asks sub) (depex_is w plan.«module» e) (λ bytes h. refl)
      | false ↦ λ sub. refl
    ]

-- The file of a module.

asked_fault : (w : World) (plan : ModulePlan) → IsWorld (meaning_of key_cmp edk) w → fault_asked w (plan_asks plan) ≡ result_err (own_value w plan)
asked_fault w plan e =
    let sections = plan.file.sections in
    fault_append w (section_files plan.depex sections) (own_asks plan)
    ∙ ap (λ (q : Option Fault). or_else q (fault_asked w (own_asks plan)))
    (fault_each w (λ (section : SectionPlan). source_file plan.depex section.source) (λ section. None) (λ section. file_fault w plan.depex section.source) sections ∙ none_of sections)
    ∙ own_fault w plan e

sections_same : (w : World) (plan : ModulePlan) (expression : List ℕ) → IsWorld (meaning_of key_cmp edk) w → own_value w plan ≡ Ok expression
    → sections_given plan (given_in w (plan_asks plan)) ≡ rule_parts w plan.depex plan.file.sections expression
unfolding sections_given
sections_same w plan expression e v =
    let depex = plan.depex in
    let sections = plan.file.sections in
    let asks = plan_asks plan in
    let files = in_first (section_files depex sections) (own_asks plan) asks (in_whole asks) in
    let own = in_behind (section_files depex sections) (own_asks plan) asks (in_whole asks) in
    let faults = required_faults w depex sections sections in
    let parts : List ℕ → Result (List Part) Fault = λ x. or_fault (expression_fault depex sections x) (parts_from depex x (given_in w asks) sections) in
    ap (λ (r : Result (Unit {0}) Fault). and_then r (λ (u : Unit {0}). and_then (own_expression plan (given_in w asks)) parts)) (checked_same w depex asks sections sections files)
    ∙ unless_and faults (and_then (own_expression plan (given_in w asks)) parts)
    ∙ ap (λ (r : Result (List ℕ) Fault). or_fault faults (and_then r parts)) (own_same w plan asks e (asked_fault w plan e ∙ ap result_err v) own ∙ v)
    ∙ ap (λ (r : Result (List Part) Fault). or_fault faults (or_fault (expression_fault depex sections expression) r)) (parts_same w depex expression asks sections files)

pub planned_same : (w : World) (head : VolumeHead) (plan : ModulePlan) → IsWorld (meaning_of key_cmp edk) w → by_answers w (plan_asks plan) (module_given head plan) ≡ planned_file w head plan
unfolding module_given
planned_same w head plan e =
    let given = given_in w (plan_asks plan) in
    let make : List Part → Result FileImage Fault = λ parts. file_of (image_plan head plan.file plan.name (body.Sections parts)) in
    ap (λ (q : Option Fault). or_fault q (module_given head plan given)) (asked_fault w plan e)
    ∙ or_value (own_value w plan) (module_given head plan given) (λ expression. and_then (rule_parts w plan.depex plan.file.sections expression) make) (λ expression v.
    ap (λ (r : Result (List Part) Fault). and_then r make) (sections_same w plan expression e v))

-- A priori files.

member_faults : (w : World) (m : Member) → IsWorld (meaning_of key_cmp edk) w → fault_asked w (member_asks m) ≡ member_fault w m
unfolding fault_asked
member_faults w (member.Inf line) e = line_fault w line e
member_faults w (member.File name) e = refl

name_same : (w : World) (asks : List (Ask Key)) (m : Member) → IsWorld (meaning_of key_cmp edk) w → fault_asked w asks ≡ None → AreIn (member_asks m) asks
    → member_name (given_in w asks) m ≡ member_value w m
unfolding line_name name_below name_described
name_same w asks (member.Inf line) e none sub =
    let name : PlatformDoc → InfDoc → List Arch → Result Guid Fault =
    λ platform inf arches. and_then (inf_arch line platform.components arches) (λ arch. Ok (module_guid platform (module_of line arch) inf)) in
    line_read w asks line name name e none sub (λ platform inf arches. refl)
name_same w asks (member.File name) e none sub = refl

pub apriori_same : (w : World) (head : VolumeHead) (at : Place) (pei : Bool) (members : List Member) → IsWorld (meaning_of key_cmp edk) w
    → by_answers w (members_asks members) (apriori_given head at pei members) ≡ apriori_value w head at pei members
unfolding apriori_given
apriori_same w head at pei members e =
    let asks = members_asks members in
    let make : List Guid → Result FileImage Fault = λ names. file_of (apriori_plan head at pei names) in
    let file = and_then (all_ok (map (member_value w) members)) make in
    or_same (fault_asked w asks) (fault_asked w asks) (apriori_given head at pei members (given_in w asks)) file refl (λ none.
    ap (λ (r : Result (List Guid) Fault). and_then r make)
    (each_told asks member_asks (member_name (given_in w asks)) (member_value w) (λ m sub. name_same w asks m e none sub) members (in_whole asks)))
    ∙ ap (λ (q : Option Fault). or_fault q file) (fault_each w member_asks (member_fault w) (λ m. member_faults w m e) members)
