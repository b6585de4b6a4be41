-- Headers of files that are made, field by field.
use Rattle.std.proofs.Common.{◌≡◌, ℕ, ◌+◌, ◌/◌, ◌%◌, ◌^◌, ◌<◌, Bool, true, false, if◌then◌else◌, List, ◌∷◌, ◌++◌, length, map, take, get_or, refl, ap, sym, ◌∙◌, arith, subst}
use Rattle.std.specs.List.{range_with_len}
use Rattle.std.proofs.Math.Nat.{mod-eq_of_lt, div-one}
use Rattle.byteorder.specs.Numbers.{little_from-bytes}
use Rattle.build_base.proofs.Places.{places_of}
use Rattle.ffs_sections.specs.declared.header.Head.{Head}
use Rattle.ffs_sections.specs.Sums.{header_sum}
use Rattle.ffs_sections.specs.File.{short_fields, long_fields, file_head, head_len, header_len}
use Rattle.volume_reader.specs.Files.{file_name, header_check, file_check, file_type, file_attributes, file_state, stated_size}

-- sixteen numbers by their places
abbrev pub sixteen : (ℕ → ℕ) → List ℕ
sixteen g = map g (range_with_len 0 16)

pub sixteen_of : (name : List ℕ) → length name ≡ 16 → name ≡ sixteen (λ k. get_or name k 0)
sixteen_of name n = places_of (λ k. get_or name k 0) 0 16 0 name n (λ i lt. ap (λ k. get_or name k 0) (omega arith))

-- what is read of a header and of what stands behind it
pub record Fields (large : Bool) (name : List ℕ) (head : Head) (bytes : List ℕ) : Type 0 where
  pub named : file_name bytes ≡ name
  pub sum : header_check bytes ≡ header_sum (take (head_len large) bytes)
  pub check : file_check bytes ≡ head.check
  pub kind : file_type bytes ≡ head.kind
  pub attributes : file_attributes bytes ≡ head.attributes + (if large then 1 else 0)
  pub state : file_state bytes ≡ head.state

short_fields_of : (g : ℕ → ℕ) (head : Head) (rest : List ℕ) → Fields false (sixteen g) head (file_head false (sixteen g) head ++ rest)
unfolding file_head short_fields file_name header_check file_check file_type file_attributes file_state
short_fields_of g head rest = record { named = refl; sum = refl; check = refl; kind = refl; attributes = omega arith; state = refl }

long_fields_of : (g : ℕ → ℕ) (head : Head) (rest : List ℕ) → Fields true (sixteen g) head (file_head true (sixteen g) head ++ rest)
unfolding file_head long_fields file_name header_check file_check file_type file_attributes file_state
long_fields_of g head rest = record { named = refl; sum = refl; check = refl; kind = refl; attributes = refl; state = refl }

pub fields_of : (large : Bool) (name : List ℕ) (head : Head) (rest : List ℕ) → length name ≡ 16 → Fields large name head (file_head large name head ++ rest)
fields_of true name head rest n =
    let P : List ℕ → Type 0 = λ z. Fields true z head (file_head true z head ++ rest) in
    subst P (sym (sixteen_of name n)) (long_fields_of (λ k. get_or name k 0) head rest)
fields_of false name head rest n =
    let P : List ℕ → Type 0 = λ z. Fields false z head (file_head false z head ++ rest) in
    subst P (sym (sixteen_of name n)) (short_fields_of (λ k. get_or name k 0) head rest)

-- the size, of which the header has three bytes, or eight
abbrev pub size_end : Bool → ℕ
size_end large = if large then 2 ^ 64 else 2 ^ 24

short_size : (g : ℕ → ℕ) (head : Head) (rest : List ℕ) → header_len (file_head false (sixteen g) head ++ rest) ≡ 24 → head.size < 2 ^ 24 → stated_size (file_head false (sixteen g) head ++ rest) ≡ head.size
unfolding file_head short_fields stated_size
short_size g head rest a h =
    let e : head.size / 256 ^ 0 % 256 ^ 3 ≡ head.size = ap (λ z. z % 256 ^ 3) (div-one head.size) ∙ mod-eq_of_lt h in
    rw a (little_from-bytes 3 0 head.size (head.state ∷ rest) ∙ e)

long_size : (g : ℕ → ℕ) (head : Head) (rest : List ℕ) → header_len (file_head true (sixteen g) head ++ rest) ≡ 32 → head.size < 2 ^ 64 → stated_size (file_head true (sixteen g) head ++ rest) ≡ head.size
unfolding file_head long_fields stated_size
long_size g head rest a h =
    let e : head.size / 256 ^ 0 % 256 ^ 8 ≡ head.size = ap (λ z. z % 256 ^ 8) (div-one head.size) ∙ mod-eq_of_lt h in
    rw a (little_from-bytes 8 0 head.size rest ∙ e)

pub size_of : (large : Bool) (name : List ℕ) (head : Head) (rest : List ℕ) → length name ≡ 16 → header_len (file_head large name head ++ rest) ≡ head_len large → head.size < size_end large
    → stated_size (file_head large name head ++ rest) ≡ head.size
size_of true name head rest n a h =
    let P : List ℕ → Type 0 = λ z. header_len (file_head true z head ++ rest) ≡ 32 → stated_size (file_head true z head ++ rest) ≡ head.size in
    subst P (sym (sixteen_of name n)) (λ b. long_size (λ k. get_or name k 0) head rest b h) a
size_of false name head rest n a h =
    let P : List ℕ → Type 0 = λ z. header_len (file_head false z head ++ rest) ≡ 24 → stated_size (file_head false z head ++ rest) ≡ head.size in
    subst P (sym (sixteen_of name n)) (λ b. short_size (λ k. get_or name k 0) head rest b h) a
