-- The file of a plan with another body: its plan, and its header, which differs in the file checksum alone.
use Rattle.std.proofs.Common.{◌≡◌, ℕ, ◌+◌, ◌/◌, ◌%◌, ◌<◌, ◌≤◌, ◌==◌, ◌&&◌, Bool, true, false, if◌then◌else◌, List, [], ◌++◌, length, get_or, slice_set, nat_lt, Ok, refl, ap, sym, ◌∙◌, arith, append-nil, subst}
use Rattle.std.specs.List.{range_with_len, list_all}
use Rattle.std.proofs.lemmas.Bool.Decides.{nat_tests}
use Rattle.std.proofs.lemmas.List.Folds.{list_all_at}
use Rattle.std.proofs.lemmas.List.FromFn.{get_or-range_with_len}
use Rattle.doc_types.specs.declared.image.Body.TheVariants.{Whole}
use Rattle.doc_types.specs.declared.image.ImagePlan.{ImagePlan}
use Rattle.doc_types.specs.declared.image.FileImage.{FileImage}
use Rattle.ffs_sections.specs.declared.header.Head.{Head}
use Rattle.ffs_sections.specs.Sums.{zero_byte}
use Rattle.ffs_sections.specs.Alignment.{is_section_alignment, alignments, alignment_index, step_bits}
use Rattle.ffs_sections.specs.File.{short_fields, long_fields, file_head as head_of, state_of, body_align, plan_step, is_large_file, file_size, file_limit, file_bytes, image_of, file_of}
use Rattle.volume_reader.specs.Files.{file_attributes}
use Rattle.volume_reader.proofs.FieldLemmas.{sixteen, sixteen_of, Fields, fields_of}
use Rattle.volume_reader.proofs.MadeLemmas.{Bits, plan_bits, step_small}
use Rattle.image_rebase.specs.Files.{has_checksum, resummed_head}

-- The alignment that a header states by a step is one, and its step is that.

abbrev step_stays : ℕ → Bool
step_stays step = is_section_alignment (get_or alignments step 0) && alignment_index (get_or alignments step 0) == step

all_stay : list_all step_stays (range_with_len 0 16) ≡ true
unfolding is_section_alignment alignment_index
all_stay = refl

stays_by : (step : ℕ) (b : Bool) → step < 16 → step_stays step ≡ b → step_stays step ≡ true
stays_by step true h e = e
stays_by step false h e =
    let at : get_or (range_with_len 0 16) step 0 ≡ step = get_or-range_with_len 0 16 step 0 h ∙ omega arith in
    let n : step_stays (get_or (range_with_len 0 16) step 0) ≡ false = ap step_stays at ∙ e in
    let f : list_all step_stays (range_with_len 0 16) ≡ false = list_all_at step_stays (range_with_len 0 16) step 0 (omega arith) n in
    let t : list_all step_stays (range_with_len 0 16) ≡ true = all_stay in
    absurd cc

both : (a b : Bool) → (a && b) ≡ true → (a ≡ true) × (b ≡ true)
both true b e = (refl, e)
both false b e = absurd cc

step_is : (step : ℕ) → step < 16 → (is_section_alignment (get_or alignments step 0) ≡ true) × (alignment_index (get_or alignments step 0) ≡ step)
step_is step h =
    let p = both (is_section_alignment (get_or alignments step 0)) (alignment_index (get_or alignments step 0) == step) (stays_by step (step_stays step) h refl) in
    (p.0, let e : (alignment_index (get_or alignments step 0) == step) ≡ true = p.1 in grind (arith, nat_tests))

-- The plan of a file with another body.

abbrev pub with_whole : ImagePlan → List ℕ → ImagePlan
with_whole plan body = record {
  at = plan.at;
  file_type = plan.file_type;
  guid = plan.guid;
  fixed = plan.fixed;
  checksum = plan.checksum;
  align = get_or alignments (plan_step plan) 0;
  erase = plan.erase;
  ffs3 = plan.ffs3;
  body = Whole body;
}

plan_step_small : (plan : ImagePlan) → plan_step plan < 16
plan_step_small plan = step_small (body_align plan.align plan.body)

-- the header of a plan's file, by the step of its alignment and the length of its body
abbrev pub head_by : ImagePlan → ℕ → ℕ → List ℕ → Head
head_by plan step count body = record {
  check = if plan.checksum then zero_byte body else 0xAA;
  kind = plan.file_type;
  attributes = (if plan.fixed then 4 else 0) + (if plan.checksum then 64 else 0) + step_bits step;
  size = file_size plan.ffs3 count;
  state = state_of plan.erase;
}

abbrev pub front_by : ImagePlan → ℕ → ℕ → List ℕ → List ℕ
front_by plan step count body = head_of (is_large_file plan.ffs3 count) plan.guid.0 (head_by plan step count body)

-- its file
abbrev pub image_by : ImagePlan → ℕ → ℕ → List ℕ → FileImage
image_by plan step count body = record { at = plan.at; guid = plan.guid; align = get_or alignments (plan_step plan) 0; bytes = front_by plan step count body ++ body }

pub anew_is : (plan : ImagePlan) (count : ℕ) (body : List ℕ) → length body ≡ count → image_of (with_whole plan body) body ≡ image_by plan (plan_step plan) count body
unfolding file_bytes
anew_is plan count body l =
    let s = step_is (plan_step plan) (plan_step_small plan) in
    let a : image_of (with_whole plan body) body ≡ record { at = plan.at; guid = plan.guid; align = get_or alignments (alignment_index (get_or alignments (plan_step plan) 0)) 0; bytes = front_by plan (alignment_index (get_or alignments (plan_step plan) 0)) (length body) body ++ body } = refl in
    a ∙ ap (λ k. record { at = plan.at; guid = plan.guid; align = get_or alignments k 0; bytes = front_by plan k (length body) body ++ body }) s.1 ∙ ap (λ n. image_by plan (plan_step plan) n body) l

pub file_anew : (plan : ImagePlan) (body : List ℕ) → file_size plan.ffs3 (length body) ≤ file_limit plan.ffs3 → file_of (with_whole plan body) ≡ Ok (image_of (with_whole plan body) body)
unfolding file_of
file_anew plan body room =
    let s = step_is (plan_step plan) (plan_step_small plan) in
    let n : nat_lt (file_limit plan.ffs3) (file_size plan.ffs3 (length body)) ≡ false = grind (arith, nat_tests) in
    rw (s.0, n) refl

-- The header with the checksum of another body.

abbrev with_check : Head → ℕ → Head
with_check head check = record { check = check; kind = head.kind; attributes = head.attributes; size = head.size; state = head.state }

check_set : (large : Bool) (g : ℕ → ℕ) (head : Head) (check : ℕ) → slice_set (head_of large (sixteen g) head) 0x11 check ≡ head_of large (sixteen g) (with_check head check)
unfolding head_of short_fields long_fields
check_set true g head check = refl
check_set false g head check = refl

set_check : (large : Bool) (name : List ℕ) (head : Head) (check : ℕ) → length name ≡ 16 → slice_set (head_of large name head) 0x11 check ≡ head_of large name (with_check head check)
set_check large name head check n =
    let P : List ℕ → Type 0 = λ z. slice_set (head_of large z head) 0x11 check ≡ head_of large z (with_check head check) in
    subst P (sym (sixteen_of name n)) (check_set large (λ k. get_or name k 0) head check)

same_bit : (large : Bool) (a : ℕ) → a % 2 ≡ 0 → (a + (if large then 1 else 0)) / 64 % 2 ≡ a / 64 % 2
same_bit true a h = omega arith
same_bit false a h = omega arith

is_one : (checksum : Bool) (a : ℕ) → a ≡ (if checksum then 1 else 0) → (a == 1) ≡ checksum
is_one true a e = rw e refl
is_one false a e = rw e refl

checksum_is : (large checksum : Bool) (name : List ℕ) (head : Head) → length name ≡ 16 → Bits checksum head.attributes → has_checksum (head_of large name head) ≡ checksum
unfolding has_checksum
checksum_is large checksum name head n b =
    let h : List ℕ = head_of large name head in
    let f : Fields large name head (h ++ []) = fields_of large name head [] n in
    let a : file_attributes h ≡ head.attributes + (if large then 1 else 0) = ap file_attributes (sym (append-nil h)) ∙ f.attributes in
    is_one checksum (file_attributes h / 64 % 2) (ap (λ z. z / 64 % 2) a ∙ same_bit large head.attributes b.even ∙ b.sum)

abbrev check_by : Bool → List ℕ → ℕ
check_by checksum body = if checksum then zero_byte body else 0xAA

resum_by : (checksum : Bool) (f : List ℕ) (large : Bool) (name : List ℕ) (head : Head) (body moved : List ℕ) → length name ≡ 16 → f ≡ head_of large name (with_check head (check_by checksum body))
    → (if checksum then slice_set f 0x11 (zero_byte moved) else f) ≡ head_of large name (with_check head (check_by checksum moved))
resum_by true f large name head body moved n e =
    ap (λ z. slice_set z 0x11 (zero_byte moved)) e ∙ set_check large name (with_check head (zero_byte body)) (zero_byte moved) n
resum_by false f large name head body moved n e = e

pub resummed_is : (plan : ImagePlan) (count : ℕ) (body moved : List ℕ) → length plan.guid.0 ≡ 16
    → resummed_head (front_by plan (plan_step plan) count body) moved ≡ front_by plan (plan_step plan) count moved
unfolding resummed_head
resummed_is plan count body moved n =
    let large : Bool = is_large_file plan.ffs3 count in
    let head : Head = head_by plan (plan_step plan) count body in
    let f : List ℕ = front_by plan (plan_step plan) count body in
    let c : has_checksum f ≡ plan.checksum = checksum_is large plan.checksum plan.guid.0 head n (plan_bits plan) in
    ap (λ b. if b then slice_set f 0x11 (zero_byte moved) else f) c ∙ resum_by plan.checksum f large plan.guid.0 head body moved n refl
