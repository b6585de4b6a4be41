-- The size of a file is what its lengths and alignments say.
use Rattle.std.proofs.Common.{◌≡◌, ℕ, ◌+◌, ◌-◌, ◌%◌, ◌<◌, ◌≤◌, ◌==◌, Bool, true, false, if◌then◌else◌, nat_lt, List, [], ◌∷◌, ◌++◌, length, replicate, get_or, drop, Option, None, Some, unwrap_or, Result, Ok, Err, refl, ap, sym, ◌∙◌, arith, length-append}
use Rattle.std.proofs.lemmas.Bool.{eqb-true}
use Rattle.std.proofs.lemmas.List.{drop_more, drop_all, length-replicate}
use Rattle.std.proofs.lemmas.Bool.Decides.{nat_tests}
use Rattle.std.specs.List.{find, range_with_len}
use Rattle.std.specs.Prelude.{is_ok}
use Rattle.build_base.specs.First.{unless, and_then}
use Rattle.build_base.specs.Answer.{Refused}
use Rattle.build_base.specs.declared.fault.Fault.{Fault}
use Rattle.build_base.specs.declared.fault.Place.{Place}
use Rattle.build_base.specs.declared.guid.Guid.{Guid}
use Rattle.build_base.specs.declared.refusal.Refusal.{Refusal}
use Rattle.build_base.specs.declared.refusal.Refusal.TheVariants.{Bad, WantOfMemory}
use Rattle.doc_types.specs.declared.image.Part.{Part}
use Rattle.doc_types.specs.declared.image.Body.{Body}
use Rattle.doc_types.specs.declared.image.Body.TheVariants.{Whole, Sections}
use Rattle.doc_types.specs.declared.image.ImagePlan.{ImagePlan}
use Rattle.doc_types.specs.declared.image.FileImage.{FileImage}
use Rattle.doc_types.specs.Standard.{EFI_SECTION_RAW}
use Rattle.ffs_sections.specs.Alignment.{is_section_alignment, is_pad, pad_of}
use Rattle.ffs_sections.specs.Sections.{guid_bytes, is_large, content_at, section_size, section_head, section_bytes, up4, part_pad, pad_section, with_part, part_fault, with_parts, fault_with_size}
use Rattle.ffs_sections.specs.File.{file_head, file_size, file_limit, file_bytes, file_sized, image_of, is_large_file, plan_head, body_of, file_of}
use Rattle.ffs_sections.specs.Sizes.{part_end, parts_end, body_length, size_checked, file_length, IsFileLength}
use Rattle.build_base.specs.FaultCodes.{ALIGNMENT_REFUSED, IMAGE_FILE_TOO_LONG}
use Rattle.ffs_sections.proofs.HeadLemmas.{length_head}

-- a turn of the sizes, and their end
pub ends_more : (ffs3 : Bool) (place : Place) (at : ℕ) (parts : List Part) (i : ℕ) (part : Part) → i < length parts → part ≡ get_or parts i part
    → parts_end ffs3 place at (drop i parts) ≡ and_then (unless (part_fault ffs3 place at part) (part_end ffs3 at part)) (λ end. parts_end ffs3 place end (drop (i + 1) parts))
unfolding parts_end
ends_more ffs3 place at parts i part h e = rw (drop_more parts i part h, ← e) refl

pub ends_none : (ffs3 : Bool) (place : Place) (at : ℕ) (parts : List Part) (i : ℕ) → length parts ≤ i → parts_end ffs3 place at (drop i parts) ≡ Ok at
unfolding parts_end
ends_none ffs3 place at parts i h = rw (drop_all i parts h) refl

-- what is found passes the test
found_passes : (p : ℕ → Bool) (x : ℕ) (b : Bool) (rest : Option ℕ) (n : ℕ) → p x ≡ b → (if b then Some x else rest) ≡ Some n → (rest ≡ Some n → p n ≡ true) → p n ≡ true
found_passes p x true rest n e h more = let s : x ≡ n = cc in ap p (sym s) ∙ e
found_passes p x false rest n e h more = more h

find_passes : (p : ℕ → Bool) (xs : List ℕ) (n : ℕ) → find p xs ≡ Some n → p n ≡ true
find_passes p [] n h = absurd cc
find_passes p (x ∷ xs) n h = found_passes p x (p x) (find p xs) n refl h (find_passes p xs n)

pad_four : (o : Option ℕ) → ((n : ℕ) → o ≡ Some n → n % 4 ≡ 0) → unwrap_or o 0 % 4 ≡ 0
pad_four None h = refl
pad_four (Some n) h = h n refl

four_of : (place align shift n : ℕ) → is_pad place align shift n ≡ true → n % 4 ≡ 0
four_of place align shift n h = grind (arith, nat_tests)

pad_is_four : (place align shift : ℕ) → unwrap_or (pad_of place align shift) 0 % 4 ≡ 0
unfolding pad_of
pad_is_four place align shift =
    pad_four (find (is_pad place align shift) (range_with_len 0 align)) (λ n e. four_of place align shift n (find_passes (is_pad place align shift) (range_with_len 0 align) n e))

length_section_head : (large : Bool) (kind size : ℕ) → length (section_head large kind size) ≡ (if large then 8 else 4)
unfolding section_head
length_section_head true kind size = refl
length_section_head false kind size = refl

length_section : (ffs3 : Bool) (kind : ℕ) (guid : Option Guid) (content : List ℕ) → length (section_bytes ffs3 kind guid content) ≡ section_size ffs3 guid (length content)
unfolding section_bytes
length_section ffs3 kind guid content =
    let large : Bool = is_large ffs3 guid (length content) in
    let head : List ℕ = section_head large kind (section_size ffs3 guid (length content)) in
    let a = length-append (head ++ guid_bytes guid) content in
    let b = length-append head (guid_bytes guid) in
    let c = length_section_head large kind (section_size ffs3 guid (length content)) in
    omega arith

pad_by : (b : Bool) (size : ℕ) → (size == 0) ≡ b → size % 4 ≡ 0
    → length (if b then [] else section_bytes false EFI_SECTION_RAW None (replicate (size - 4) 0)) ≡ size
pad_by true size e four = sym (eqb-true size 0 e)
pad_by false size e four =
    let l = length_section false EFI_SECTION_RAW None (replicate (size - 4) 0) in
    let zeros : List ℕ = replicate (size - 4) 0 in
    let r : length zeros ≡ size - 4 = length-replicate (size - 4) 0 in
    let big : 4 ≤ size = grind (arith, nat_tests) in
    omega arith

length_pad : (size : ℕ) → size % 4 ≡ 0 → length (pad_section size) ≡ size
length_pad size four = pad_by (size == 0) size refl four

-- a body with one section more ends where its lengths say
length_part : (ffs3 : Bool) (body : List ℕ) (part : Part) → length (with_part ffs3 body part) ≡ part_end ffs3 (length body) part
unfolding with_part
length_part ffs3 body part =
    let at : ℕ = length body in
    let pad : ℕ = unwrap_or (part_pad ffs3 at part) 0 in
    let zeros : List ℕ = replicate (up4 at - at) 0 in
    let own : List ℕ = section_bytes ffs3 part.kind part.guid part.bytes in
    let a = length-append (body ++ zeros ++ pad_section pad) own in
    let b = length-append (body ++ zeros) (pad_section pad) in
    let c = length-append body zeros in
    let z : length zeros ≡ up4 at - at = length-replicate (up4 at - at) 0 in
    let p = length_pad pad (pad_is_four (up4 at + content_at ffs3 part.guid (length part.bytes)) part.align part.shift) in
    let s = length_section ffs3 part.kind part.guid part.bytes in
    omega arith

-- what is left of sections, by its bytes and by its lengths
rest_same : (fault : Option Fault) (x : List ℕ) (n : ℕ) (rest : List ℕ → Result (List ℕ) Fault) (ends : ℕ → Result ℕ Fault) → length x ≡ n
    → ((b : List ℕ) → and_then (rest b) (λ z. Ok (length z)) ≡ ends (length b))
    → and_then (and_then (unless fault x) rest) (λ z. Ok (length z)) ≡ and_then (unless fault n) ends
rest_same None x n rest ends e h = h x ∙ ap ends e
rest_same (Some fault) x n rest ends e h = refl

parts_same : (ffs3 : Bool) (place : Place) (parts : List Part) (body : List ℕ)
    → and_then (with_parts ffs3 place body parts) (λ z. Ok (length z)) ≡ parts_end ffs3 place (length body) parts
unfolding with_parts parts_end
parts_same ffs3 place [] body = refl
parts_same ffs3 place (part ∷ parts) body =
    rest_same (part_fault ffs3 place (length body) part) (with_part ffs3 body part) (part_end ffs3 (length body) part) (λ more. with_parts ffs3 place more parts)
    (λ end. parts_end ffs3 place end parts) (length_part ffs3 body part) (parts_same ffs3 place parts)

body_same : (plan : ImagePlan) (body : Body) → and_then (body_of plan body) (λ z. Ok (length z)) ≡ body_length plan body
body_same plan (Whole bytes) = refl
body_same plan (Sections parts) = parts_same plan.ffs3 plan.at parts []

pub length_file : (plan : ImagePlan) (body : List ℕ) → length plan.guid.0 ≡ 16 → length (file_bytes plan body) ≡ file_size plan.ffs3 (length body)
unfolding file_bytes
length_file plan body n =
    let large : Bool = is_large_file plan.ffs3 (length body) in
    length-append (file_head large plan.guid.0 (plan_head plan body)) body ∙ ap (λ k. k + length body) (length_head large plan.guid.0 (plan_head plan body) n)

length_picked : (long : Bool) (fault : Fault) (file : FileImage) (n : ℕ) → length file.bytes ≡ n
    → and_then (if long then Err fault else Ok file) (λ x. Ok (length x.bytes)) ≡ unless (if long then Some fault else None) n
length_picked true fault file n e = refl
length_picked false fault file n e = ap (λ k. Ok k) e

joined_same : (o : Result (List ℕ) Fault) (f : List ℕ → Result FileImage Fault) (m : Result ℕ Fault) (g : ℕ → Result ℕ Fault) → and_then o (λ z. Ok (length z)) ≡ m
    → ((b : List ℕ) → and_then (f b) (λ x. Ok (length x.bytes)) ≡ g (length b)) → and_then (and_then o f) (λ x. Ok (length x.bytes)) ≡ and_then m g
joined_same (Ok b) f m g e h = h b ∙ ap (λ z. and_then z g) e
joined_same (Err x) f m g e h = ap (λ z. and_then z g) e

aligned_same : (known : Bool) (fault : Fault) (file : Result FileImage Fault) (n : Result ℕ Fault) → and_then file (λ x. Ok (length x.bytes)) ≡ n
    → and_then (if known then file else Err fault) (λ x. Ok (length x.bytes)) ≡ (if known then n else Err fault)
aligned_same true fault file n e = e
aligned_same false fault file n e = refl

-- the size is that of the file's own bytes
pub sizes_same : (plan : ImagePlan) → length plan.guid.0 ≡ 16 → IsFileLength plan
unfolding file_of file_length
sizes_same plan n =
    let each : (b : List ℕ) → and_then (file_sized plan b) (λ x. Ok (length x.bytes)) ≡ size_checked plan (length b) =
    λ b. length_picked (nat_lt (file_limit plan.ffs3) (file_size plan.ffs3 (length b))) (fault_with_size IMAGE_FILE_TOO_LONG plan.at (file_size plan.ffs3 (length b))) (image_of plan b)
    (file_size plan.ffs3 (length b)) (length_file plan b n) in
    aligned_same (is_section_alignment plan.align) (fault_with_size ALIGNMENT_REFUSED plan.at plan.align) (and_then (body_of plan plan.body) (file_sized plan)) (and_then (body_length plan plan.body) (size_checked plan))
    (joined_same (body_of plan plan.body) (file_sized plan) (body_length plan plan.body) (size_checked plan) (body_same plan plan.body) each)

-- a fault of the size is that of the file
pub refused_length : (r : Refusal) (file : Result FileImage Fault) (n : Result ℕ Fault) → and_then file (λ x. Ok (length x.bytes)) ≡ n → Refused r n → Refused r file
refused_length (Bad fault) (Ok x) n e h = absurd cc
refused_length (Bad fault) (Err f) n e h = let s : f ≡ fault = cc in ap (λ z. Err z) s
refused_length WantOfMemory file n e h = tt

-- what is known of a file whose size is known
fits_by : (known long : Bool) (e f : Fault) (n : ℕ) → is_ok (if known then unless (if long then Some e else None) n else Err f) ≡ true → (known ≡ true) × (long ≡ false)
fits_by true true e f n h = absurd cc
fits_by true false e f n h = (refl, refl)
fits_by false long e f n h = absurd cc

known_by : (known : Bool) (n : Result ℕ Fault) (f : Fault) → is_ok (if known then n else Err f) ≡ true → known ≡ true
known_by true n f h = refl
known_by false n f h = absurd cc

abbrev too_long : ImagePlan → List ℕ → Bool
too_long plan body = nat_lt (file_limit plan.ffs3) (file_size plan.ffs3 (length body))

fits_of : (plan : ImagePlan) (body : List ℕ) → is_ok (file_length plan) ≡ true → body_of plan plan.body ≡ Ok body → (is_section_alignment plan.align ≡ true) × (too_long plan body ≡ false)
unfolding file_length
fits_of plan body h e =
    let m : body_length plan plan.body ≡ Ok (length body) = sym (body_same plan plan.body) ∙ ap (λ z. and_then z (λ y. Ok (length y))) e in
    let size : ℕ = file_size plan.ffs3 (length body) in
    fits_by (is_section_alignment plan.align) (too_long plan body) (fault_with_size IMAGE_FILE_TOO_LONG plan.at size) (fault_with_size ALIGNMENT_REFUSED plan.at plan.align) size
    (sym (ap (λ (z : Result ℕ Fault). is_ok (if is_section_alignment plan.align then and_then z (size_checked plan) else Err (fault_with_size ALIGNMENT_REFUSED plan.at plan.align))) m) ∙ h)

known_of : (plan : ImagePlan) → is_ok (file_length plan) ≡ true → is_section_alignment plan.align ≡ true
unfolding file_length
known_of plan h = known_by (is_section_alignment plan.align) (and_then (body_length plan plan.body) (size_checked plan)) (fault_with_size ALIGNMENT_REFUSED plan.at plan.align) h

made_of : (plan : ImagePlan) (body : List ℕ) → is_ok (file_length plan) ≡ true → body_of plan plan.body ≡ Ok body → file_of plan ≡ Ok (image_of plan body)
unfolding file_of
made_of plan body h e = let k = fits_of plan body h e in rw (k.0, e, k.1) refl

refused_of : (r : Refusal) (plan : ImagePlan) → is_ok (file_length plan) ≡ true → Refused r (body_of plan plan.body) → Refused r (file_of plan)
unfolding file_of
refused_of (Bad fault) plan h e = rw (known_of plan h, e) refl
refused_of WantOfMemory plan h e = tt

small_of : (plan : ImagePlan) (body : List ℕ) → too_long plan body ≡ false → file_size plan.ffs3 (length body) ≤ file_limit plan.ffs3
small_of plan body h = grind (arith, nat_tests)

pub sections_fit : (plan : ImagePlan) (parts : List Part) (body : List ℕ) → plan.body ≡ Sections parts → is_ok (file_length plan) ≡ true → with_parts plan.ffs3 plan.at [] parts ≡ Ok body
    → file_size plan.ffs3 (length body) ≤ file_limit plan.ffs3
sections_fit plan parts body b h e = small_of plan body (fits_of plan body h (ap (body_of plan) b ∙ e)).1

pub sections_made : (plan : ImagePlan) (parts : List Part) (body : List ℕ) → plan.body ≡ Sections parts → is_ok (file_length plan) ≡ true → with_parts plan.ffs3 plan.at [] parts ≡ Ok body
    → file_of plan ≡ Ok (image_of plan body)
sections_made plan parts body b h e = made_of plan body h (ap (body_of plan) b ∙ e)

refused_same : (r : Refusal) (a b : Result (List ℕ) Fault) → a ≡ b → Refused r b → Refused r a
refused_same (Bad fault) a b e h = e ∙ h
refused_same WantOfMemory a b e h = tt

pub sections_refused : (r : Refusal) (plan : ImagePlan) (parts : List Part) → plan.body ≡ Sections parts → is_ok (file_length plan) ≡ true → Refused r (with_parts plan.ffs3 plan.at [] parts)
    → Refused r (file_of plan)
sections_refused r plan parts b h e = refused_of r plan h (refused_same r (body_of plan plan.body) (with_parts plan.ffs3 plan.at [] parts) (ap (body_of plan) b) e)

pub whole_fits : (plan : ImagePlan) (body : List ℕ) → plan.body ≡ Whole body → is_ok (file_length plan) ≡ true → file_size plan.ffs3 (length body) ≤ file_limit plan.ffs3
whole_fits plan body b h = small_of plan body (fits_of plan body h (ap (body_of plan) b)).1

pub whole_made : (plan : ImagePlan) (body : List ℕ) → plan.body ≡ Whole body → is_ok (file_length plan) ≡ true → file_of plan ≡ Ok (image_of plan body)
whole_made plan body b h = made_of plan body h (ap (body_of plan) b)
