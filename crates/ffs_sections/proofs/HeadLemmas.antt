-- The headers of files: their lengths, and what byte 19 says of that.
use Rattle.std.proofs.Common.{◌≡◌, ℕ, ◌+◌, ◌-◌, ◌*◌, ◌%◌, ◌≤◌, Bool, true, false, if◌then◌else◌, List, [], ◌∷◌, ◌++◌, length, get_or, set, ap, ◌∙◌, refl, arith, append_assoc, length-append, length-set, nat_lt}
use Rattle.std.proofs.lemmas.List.{get_or-set_other, get_or_append_left}
use Rattle.std.proofs.Math.Seq.{get_or-append_right}
use Rattle.byteorder.specs.Endian.{little_bytes}
use Rattle.doc_types.specs.declared.image.ImagePlan.{ImagePlan}
use Rattle.ffs_sections.specs.declared.header.Head.{Head}
use Rattle.ffs_sections.specs.Sums.{header_sum, summed}
use Rattle.ffs_sections.specs.File.{short_fields, long_fields, file_head, head_len, header_len, is_large_file, plan_head, plan_step, attributes_of, file_bytes}

pub length_short : (name : List ℕ) (head : Head) → length (short_fields name head) ≡ length name + 8
unfolding short_fields
length_short name head = simp length-append (omega arith)

pub length_long : (name : List ℕ) (head : Head) → length (long_fields name head) ≡ length name + 16
unfolding long_fields
length_long name head = simp length-append (omega arith)

pub length_head : (large : Bool) (name : List ℕ) (head : Head) → length name ≡ 16 → length (file_head large name head) ≡ head_len large
unfolding file_head
length_head true name head n =
    let l = length_long name head in
    let g : length (long_fields name head) ≡ 32 = omega arith in
    length-set (long_fields name head) 16 (header_sum (long_fields name head)) ∙ g
length_head false name head n =
    let l = length_short name head in
    let g : length (short_fields name head) ≡ 24 = omega arith in
    length-set (short_fields name head) 16 (header_sum (short_fields name head)) ∙ g

-- what stands behind the name
abbrev short_tail : Head → List ℕ
short_tail head = (0 ∷ head.check ∷ head.kind ∷ head.attributes ∷ []) ++ (little_bytes 3 head.size ++ head.state ∷ [])

short_is : (name : List ℕ) (head : Head) → short_fields name head ≡ name ++ short_tail head
unfolding short_fields
short_is name head =
    let front : List ℕ = 0 ∷ head.check ∷ head.kind ∷ head.attributes ∷ [] in
    append_assoc (name ++ front) (little_bytes 3 head.size) (head.state ∷ []) ∙ append_assoc name front (little_bytes 3 head.size ++ head.state ∷ [])

abbrev long_tail : Head → List ℕ
long_tail head = (0 ∷ head.check ∷ head.kind ∷ (head.attributes + 1) ∷ []) ++ ((0 ∷ 0 ∷ 0 ∷ head.state ∷ []) ++ little_bytes 8 head.size)

long_is : (name : List ℕ) (head : Head) → long_fields name head ≡ name ++ long_tail head
unfolding long_fields
long_is name head =
    let front : List ℕ = 0 ∷ head.check ∷ head.kind ∷ (head.attributes + 1) ∷ [] in
    let back : List ℕ = 0 ∷ 0 ∷ 0 ∷ head.state ∷ [] in
    append_assoc (name ++ front) back (little_bytes 8 head.size) ∙ append_assoc name front (back ++ little_bytes 8 head.size)

byte_nineteen : (name t : List ℕ) (y : ℕ) → length name ≡ 16 → get_or (set (name ++ t) 16 y) 19 0 ≡ get_or t 3 0
byte_nineteen name t y n =
    get_or-set_other (name ++ t) 16 19 y 0 (λ e. omega (arith, e)) ∙ get_or-append_right name t 19 0 (omega (arith, n)) ∙ ap (λ k. get_or t (19 - k) 0) n

short_nineteen : (name : List ℕ) (head : Head) → length name ≡ 16 → get_or (summed (short_fields name head)) 19 0 ≡ head.attributes
short_nineteen name head n = rw (short_is name head) (byte_nineteen name (short_tail head) (header_sum (name ++ short_tail head)) n)

long_nineteen : (name : List ℕ) (head : Head) → length name ≡ 16 → get_or (summed (long_fields name head)) 19 0 ≡ head.attributes + 1
long_nineteen name head n = rw (long_is name head) (byte_nineteen name (long_tail head) (header_sum (name ++ long_tail head)) n)

head_even : (bytes : List ℕ) (a : ℕ) → get_or bytes 19 0 ≡ a → a % 2 ≡ 0 → header_len bytes ≡ 24
unfolding header_len
head_even bytes a k e = rw (k, e) refl

head_odd : (bytes : List ℕ) (a : ℕ) → get_or bytes 19 0 ≡ a → a % 2 ≡ 1 → header_len bytes ≡ 32
unfolding header_len
head_odd bytes a k e = rw (k, e) refl

-- a file begins with a header of the length that byte 19 says
pub head_at_file : (large : Bool) (name : List ℕ) (head : Head) (body : List ℕ) → length name ≡ 16 → head.attributes % 2 ≡ 0 → header_len (file_head large name head ++ body) ≡ head_len large
unfolding file_head
head_at_file true name head body n e =
    let h : List ℕ = summed (long_fields name head) in
    let l : length h ≡ length (long_fields name head) = length-set (long_fields name head) 16 (header_sum (long_fields name head)) in
    let m = length_long name head in
    head_odd (h ++ body) (head.attributes + 1) (get_or_append_left h body 0 19 (omega arith) ∙ long_nineteen name head n) (omega arith)
head_at_file false name head body n e =
    let h : List ℕ = summed (short_fields name head) in
    let l : length h ≡ length (short_fields name head) = length-set (short_fields name head) 16 (header_sum (short_fields name head)) in
    let m = length_short name head in
    head_even (h ++ body) head.attributes (get_or_append_left h body 0 19 (omega arith) ∙ short_nineteen name head n) e

evens : (a b c : Bool) (step : ℕ) → ((if a then 4 else 0) + (if b then 64 else 0) + (if c then 8 * step else 8 * (step - 8) + 2)) % 2 ≡ 0
evens true true true step = omega arith
evens true true false step = omega arith
evens true false true step = omega arith
evens true false false step = omega arith
evens false true true step = omega arith
evens false true false step = omega arith
evens false false true step = omega arith
evens false false false step = omega arith

pub file_shape : (plan : ImagePlan) (body : List ℕ) → length plan.guid.0 ≡ 16 → header_len (file_bytes plan body) ≤ length (file_bytes plan body)
unfolding file_bytes
file_shape plan body n =
    let large : Bool = is_large_file plan.ffs3 (length body) in
    let head : Head = plan_head plan body in
    let e : attributes_of plan % 2 ≡ 0 = evens plan.fixed plan.checksum (nat_lt (plan_step plan) 8) (plan_step plan) in
    let a = head_at_file large plan.guid.0 head body n e in
    let l = length-append (file_head large plan.guid.0 head) body in
    let m = length_head large plan.guid.0 head n in
    omega arith
