-- A file whose modules are moved is the file of a plan.
use Rattle.std.proofs.Common.{◌≡◌, ℕ, ◌+◌, ◌≤◌, Bool, true, false, if◌then◌else◌, List, ◌++◌, length, take, drop, Option, Some, None, Ok, refl, ap, sym, ◌∙◌, arith, length-append, subst}
use Rattle.std.proofs.Math.Seq.{take-append_seam, drop-append_seam}
use Rattle.build_base.specs.declared.fault.Place.{Place}
use Rattle.doc_types.specs.declared.image.ImagePlan.{ImagePlan}
use Rattle.doc_types.specs.declared.image.FileImage.{FileImage}
use Rattle.doc_types.specs.declared.volume_head.VolumeHead.{VolumeHead}
use Rattle.ffs_sections.specs.File.{head_len, header_len, plan_step, is_large_file, file_size, file_limit, file_bytes, body_of, image_of}
use Rattle.ffs_sections.proofs.HeadLemmas.{length_head, head_at_file}
use Rattle.volume_reader.specs.declared.listed.ListedSection.{ListedSection}
use Rattle.volume_reader.specs.Sections.{sections_of}
use Rattle.volume_reader.specs.Written.{Made, IsMade, made_sections}
use Rattle.volume_reader.proofs.MadeLemmas.{Built, built_of, plan_bits}
use Rattle.image_rebase.specs.Files.{resummed_head, with_body, file_head, file_body, moved_from, with_found, moved_sections, has_sections, moved_bytes, with_file_bytes, moved_file}
use Rattle.image_rebase.proofs.SameLemmas.{SameAt, through}
use Rattle.image_rebase.proofs.BodyLemmas.{same_file}
use Rattle.image_rebase.specs.Changes.{file_changes}
use Rattle.volume_laws.proofs.LikeLemmas.{Like}
use Rattle.volume_laws.proofs.SectionsLemmas.{sections_same}
use Rattle.volume_laws.proofs.PlanLemmas.{with_whole, head_by, front_by, image_by, anew_is, file_anew, resummed_is}

-- the file of a plan with this body: its length, and where its body stands
record Shape (plan : ImagePlan) (count : ℕ) (body : List ℕ) : Type 0 where
  size : length (front_by plan (plan_step plan) count body ++ body) ≡ head_len (is_large_file plan.ffs3 count) + length body
  head : header_len (front_by plan (plan_step plan) count body ++ body) ≡ head_len (is_large_file plan.ffs3 count)
  front : length (front_by plan (plan_step plan) count body) ≡ head_len (is_large_file plan.ffs3 count)

shape_of : (plan : ImagePlan) (count : ℕ) (body : List ℕ) → length plan.guid.0 ≡ 16 → Shape plan count body
shape_of plan count body n =
    let large : Bool = is_large_file plan.ffs3 count in
    let front : List ℕ = front_by plan (plan_step plan) count body in
    let l : length front ≡ head_len large = length_head large plan.guid.0 (head_by plan (plan_step plan) count body) n in
    record {
      size = length-append front body ∙ ap (λ k. k + length body) l;
      head = head_at_file large plan.guid.0 (head_by plan (plan_step plan) count body) body n (plan_bits plan).even;
      front = l;
    }

-- a file that is made of a plan, and the same file with its modules moved
pub record IsMoved (head : VolumeHead) (made : Made) (file : FileImage) : Type 0 where
  pub now : Made
  pub file_is : now.file ≡ file
  pub made_is : IsMade head now
  pub like : Like head.ffs3 made now

built_is : (plan : ImagePlan) (body : List ℕ) → image_of plan body ≡ image_by plan (plan_step plan) (length body) body
unfolding file_bytes
built_is plan body = refl

-- the sections of a file with another body
same_sections : (ffs3 : Bool) (place : ℕ) (made now : Made) (body moved : List ℕ) → body_of made.plan made.plan.body ≡ Ok body → body_of now.plan now.plan.body ≡ Ok moved
    → now.plan.file_type ≡ made.plan.file_type → header_len now.file.bytes ≡ header_len made.file.bytes
    → sections_of ffs3 (place + header_len made.file.bytes) moved ≡ sections_of ffs3 (place + header_len made.file.bytes) body → made_sections ffs3 place now ≡ made_sections ffs3 place made
unfolding made_sections
same_sections ffs3 place made now body moved a b k h s = rw (a, b, k, h, s) refl

-- another body in place of the one of a plan
with_other : (head : VolumeHead) (made : Made) (body moved bytes : List ℕ) → IsMade head made → made.file ≡ image_by made.plan (plan_step made.plan) (length body) body
    → body_of made.plan made.plan.body ≡ Ok body → file_size made.plan.ffs3 (length body) ≤ file_limit made.plan.ffs3 → length moved ≡ length body
    → front_by made.plan (plan_step made.plan) (length body) moved ++ moved ≡ bytes → ((place : ℕ) → sections_of head.ffs3 place moved ≡ sections_of head.ffs3 place body)
    → IsMoved head made (with_file_bytes made.file bytes)
with_other head made body moved bytes m e parts room l b s =
    let plan : ImagePlan = made.plan in
    let file : FileImage = image_by plan (plan_step plan) (length body) moved in
    let old : Shape plan (length body) body = shape_of plan (length body) body m.name in
    let new : Shape plan (length body) moved = shape_of plan (length body) moved m.name in
    let fits : file_size plan.ffs3 (length moved) ≤ file_limit plan.ffs3 = subst (λ n. file_size plan.ffs3 n ≤ file_limit plan.ffs3) (sym l) room in
    let now : Made = record { plan = with_whole plan moved; file = file } in
    record {
      now = now;
      file_is = ap (λ z. with_file_bytes (image_by plan (plan_step plan) (length body) body) z) b ∙ ap (λ f. with_file_bytes f bytes) (sym e);
      made_is = record {
        file = file_anew plan moved fits ∙ ap (λ f. Ok f) (anew_is plan (length body) moved l);
        name = m.name;
        ffs3 = m.ffs3;
        erase = m.erase;
      };
      like = record {
        name = refl;
        kind = refl;
        guid = ap (λ f. f.guid) (sym e);
        align = ap (λ f. f.align) (sym e);
        size = new.size ∙ ap (λ n. head_len (is_large_file plan.ffs3 (length body)) + n) l ∙ sym old.size ∙ ap (λ f. length f.bytes) (sym e);
        head = new.head ∙ sym old.head ∙ ap (λ f. header_len f.bytes) (sym e);
        sections = λ place. same_sections head.ffs3 place made now body moved parts refl refl (new.head ∙ sym old.head ∙ ap (λ f. header_len f.bytes) (sym e)) (s (place + header_len made.file.bytes));
      };
    }

-- a file of its parts, as it is moved
abbrev MovedTo : ImagePlan → List ℕ → List ℕ → List ℕ → Type 0
MovedTo plan body bytes moved = (length moved ≡ length body) × (front_by plan (plan_step plan) (length body) moved ++ moved ≡ bytes)

found_parts : {P : Type 0} (plan : ImagePlan) (body : List ℕ) (place : Place) (base address : ℕ) (found : Option (List ListedSection)) (bytes : List ℕ) → length plan.guid.0 ≡ 16
    → with_found place base address (front_by plan (plan_step plan) (length body) body ++ body) found ≡ Ok bytes
    → length bytes ≡ length (front_by plan (plan_step plan) (length body) body ++ body) → ((moved : List ℕ) → MovedTo plan body bytes moved → P) → P
found_parts plan body place base address None bytes n e l k =
    let s : front_by plan (plan_step plan) (length body) body ++ body ≡ bytes = cc in k body (refl, s)
found_parts plan body place base address (Some sections) bytes n e l k =
    let front : List ℕ = front_by plan (plan_step plan) (length body) body in
    let old : List ℕ = front ++ body in
    let was : Shape plan (length body) body = shape_of plan (length body) body n in
    through (moved_from place base (address + header_len old) (file_body old) 0 sections) (λ moved. Ok (with_body (file_head old) moved)) bytes e
    (λ moved a b.
    let s : with_body (file_head old) moved ≡ bytes = cc in
    let t : file_head old ≡ front = ap (λ h. take h old) (was.head ∙ sym was.front) ∙ take-append_seam front body in
    let r : resummed_head (file_head old) moved ≡ front_by plan (plan_step plan) (length body) moved = ap (λ z. resummed_head z moved) t ∙ resummed_is plan (length body) body moved n in
    let whole : front_by plan (plan_step plan) (length body) moved ++ moved ≡ bytes = sym (ap (λ z. z ++ moved) r) ∙ s in
    let now : Shape plan (length body) moved = shape_of plan (length body) moved n in
    let size : length (front_by plan (plan_step plan) (length body) moved ++ moved) ≡ length old = ap length whole ∙ l in
    let ns = now.size in
    let ws = was.size in
    k moved (omega arith, whole))

moved_parts : {P : Type 0} (plan : ImagePlan) (body : List ℕ) (ffs3 : Bool) (place : Place) (base address : ℕ) (bytes : List ℕ) → length plan.guid.0 ≡ 16
    → moved_bytes ffs3 place base address (front_by plan (plan_step plan) (length body) body ++ body) ≡ Ok bytes → ((moved : List ℕ) → MovedTo plan body bytes moved → P) → P
unfolding moved_bytes moved_sections
moved_parts {P} plan body ffs3 place base address bytes n e k =
    let old : List ℕ = front_by plan (plan_step plan) (length body) body ++ body in
    let same : SameAt (file_changes ffs3 place old 0) 0 old bytes = same_file ffs3 place base address old bytes 0 e in
    elim (has_sections old) as (λ b. (if b then with_found place base address old (sections_of ffs3 0 (file_body old)) else Ok old) ≡ Ok bytes → P) [
      | true ↦ λ o. found_parts plan body place base address (sections_of ffs3 0 (file_body old)) bytes n o same.size k
      | false ↦ λ o. let s : old ≡ bytes = cc in k body (refl, s)
    ] e

-- the sections of a file that is moved are those of its parts
moved_sections_same : (plan : ImagePlan) (body : List ℕ) (ffs3 : Bool) (place : Place) (base address : ℕ) (bytes moved : List ℕ) (p : ℕ) → length plan.guid.0 ≡ 16
    → moved_bytes ffs3 place base address (front_by plan (plan_step plan) (length body) body ++ body) ≡ Ok bytes → length moved ≡ length body
    → front_by plan (plan_step plan) (length body) moved ++ moved ≡ bytes → sections_of ffs3 p moved ≡ sections_of ffs3 p body
moved_sections_same plan body ffs3 place base address bytes moved p n e l w =
    let front : List ℕ = front_by plan (plan_step plan) (length body) body in
    let fresh : List ℕ = front_by plan (plan_step plan) (length body) moved in
    let old : Shape plan (length body) body = shape_of plan (length body) body n in
    let new : Shape plan (length body) moved = shape_of plan (length body) moved n in
    let was : file_body (front ++ body) ≡ body = ap (λ k. drop k (front ++ body)) (old.head ∙ sym old.front) ∙ drop-append_seam front body in
    let is : file_body bytes ≡ moved = ap file_body (sym w) ∙ ap (λ k. drop k (fresh ++ moved)) (new.head ∙ sym new.front) ∙ drop-append_seam fresh moved in
    ap (sections_of ffs3 p) (sym is) ∙ sections_same ffs3 place base address (front ++ body) bytes p e ∙ ap (sections_of ffs3 p) was

pub file_moved : (head : VolumeHead) (made : Made) (base start : ℕ) (file : FileImage) → IsMade head made → moved_file head.ffs3 base start made.file ≡ Ok file → IsMoved head made file
unfolding moved_file
file_moved head made base start file m e =
    let ffs3 : Bool = head.ffs3 in
    let plan : ImagePlan = made.plan in
    let b : Built plan made.file = built_of plan made.file m.file in
    let body : List ℕ = b.body in
    let whole : made.file ≡ image_by plan (plan_step plan) (length body) body = b.whole ∙ built_is plan body in
    through (moved_bytes ffs3 made.file.at base (base + start) made.file.bytes) (λ bytes. Ok (with_file_bytes made.file bytes)) file e
    (λ bytes a o.
    let s : with_file_bytes made.file bytes ≡ file = cc in
    let c : moved_bytes ffs3 made.file.at base (base + start) (front_by plan (plan_step plan) (length body) body ++ body) ≡ Ok bytes =
    ap (λ f. moved_bytes ffs3 made.file.at base (base + start) f.bytes) (sym whole) ∙ a in
    moved_parts plan body ffs3 made.file.at base (base + start) bytes m.name c
    (λ moved p.
    subst (IsMoved head made) s
    (with_other head made body moved bytes m whole b.parts b.room p.0 p.1 (λ place. moved_sections_same plan body ffs3 made.file.at base (base + start) bytes moved place m.name c p.0 p.1))))
