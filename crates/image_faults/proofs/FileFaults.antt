-- Faults of files have names, and a file that is made has an alignment that its header states.
use Rattle.std.proofs.Common.{Bool, Err, List, Ok, [], eq-eqb, get_or, length, nat_lt, not, refl, subst, sym, true, ℕ, ◌<◌, ◌==◌, ◌∷◌, ◌≡◌}
use Rattle.std.proofs.lemmas.List.Folds.{list_any_at}
use Rattle.std.specs.Prelude.{is_none}
use Rattle.build_base.specs.FaultCodes.{ALIGNMENT_REFUSED, IMAGE_FILE_TOO_LONG, SECTION_TOO_LONG}
use Rattle.build_base.specs.First.{and_then, unless}
use Rattle.build_base.specs.declared.fault.Place.{Place}
use Rattle.named_faults.proofs.NamedLemmas.{holding_named, if_fails, then_fails, unless_fails}
use Rattle.named_faults.specs.Named.{FailsByName, IsNamed}
use Rattle.named_faults.proofs.CodeLemmas.{alignment_refused_named, image_file_too_long_named, section_too_long_named}
use Rattle.doc_types.specs.declared.image.Body.{Body}
use Rattle.doc_types.specs.declared.image.Body.TheVariants.{Sections, Whole}
use Rattle.doc_types.specs.declared.image.FileImage.{FileImage}
use Rattle.doc_types.specs.declared.image.ImagePlan.{ImagePlan}
use Rattle.doc_types.specs.declared.image.Part.{Part}
use Rattle.ffs_sections.specs.Alignment.{alignments, is_alignment, is_section_alignment}
use Rattle.ffs_sections.specs.File.{body_align, body_of, file_limit, file_of, file_size, file_sized, image_of, plan_step}
use Rattle.ffs_sections.specs.Sections.{fault_with_size, part_fault, part_pad, section_limit, section_size, with_part, with_parts}
use Rattle.fv_compose.specs.Files.{is_stated}
use Rattle.volume_reader.proofs.MadeLemmas.{built_of, step_small}

part_named : (ffs3 : Bool) (place : Place) (at : ℕ) (part : Part) → IsNamed (part_fault ffs3 place at part)
unfolding part_fault
part_named ffs3 place at part =
    let size : ℕ = section_size ffs3 part.guid (length part.bytes) in
    holding_named
    ((not (is_section_alignment part.align), fault_with_size ALIGNMENT_REFUSED place part.align)
    ∷ (is_none (part_pad ffs3 at part), fault_with_size ALIGNMENT_REFUSED place part.align)
    ∷ (nat_lt (section_limit ffs3) size, fault_with_size SECTION_TOO_LONG place size)
    ∷ [])
    (alignment_refused_named, (alignment_refused_named, (section_too_long_named, tt)))

parts_fail : (ffs3 : Bool) (place : Place) (body : List ℕ) (parts : List Part) → FailsByName (with_parts ffs3 place body parts)
unfolding with_parts
parts_fail ffs3 place body [] = tt
parts_fail ffs3 place body (part ∷ parts) =
    then_fails (unless (part_fault ffs3 place (length body) part) (with_part ffs3 body part)) (λ more. with_parts ffs3 place more parts)
    (unless_fails (part_fault ffs3 place (length body) part) (with_part ffs3 body part) (part_named ffs3 place (length body) part))
    (λ more e. parts_fail ffs3 place more parts)

body_fails : (plan : ImagePlan) (content : Body) → FailsByName (body_of plan content)
body_fails plan (Whole bytes) = tt
body_fails plan (Sections parts) = parts_fail plan.ffs3 plan.at [] parts

sized_fails : (plan : ImagePlan) (body : List ℕ) → FailsByName (file_sized plan body)
sized_fails plan body =
    let size : ℕ = file_size plan.ffs3 (length body) in
    if_fails (nat_lt (file_limit plan.ffs3) size) (Err (fault_with_size IMAGE_FILE_TOO_LONG plan.at size)) (Ok (image_of plan body)) image_file_too_long_named tt

pub file_fails : (plan : ImagePlan) → FailsByName (file_of plan)
unfolding file_of
file_fails plan =
    if_fails (is_section_alignment plan.align) (and_then (body_of plan plan.body) (file_sized plan)) (Err (fault_with_size ALIGNMENT_REFUSED plan.at plan.align))
    (then_fails (body_of plan plan.body) (file_sized plan) (body_fails plan plan.body) (λ body e. sized_fails plan body)) alignment_refused_named

-- The alignment of a file that is made.

stated_at : (step : ℕ) → step < 16 → is_alignment (get_or alignments step 0) ≡ true
stated_at step h = list_any_at (λ stated. stated == get_or alignments step 0) alignments step 0 h (eq-eqb (get_or alignments step 0) (get_or alignments step 0) refl)

image_stated : (plan : ImagePlan) (body : List ℕ) → is_stated (image_of plan body) ≡ true
unfolding is_stated
image_stated plan body = stated_at (plan_step plan) (step_small (body_align plan.align plan.body))

pub file_stated : (plan : ImagePlan) (file : FileImage) → file_of plan ≡ Ok file → is_stated file ≡ true
file_stated plan file e =
    let b = built_of plan file e in
    subst (λ z. is_stated z ≡ true) (sym b.whole) (image_stated plan b.body)
