-- Sections of a body, one after another.
use Rattle.std.proofs.Common.{◌≡◌, ℕ, ◌+◌, ◌-◌, ◌<◌, ◌≤◌, ◌==◌, Bool, true, false, List, [], ◌∷◌, ◌++◌, length, drop, Option, Some, None, refl, suc, ap, sym, ◌∙◌, arith, append_assoc, append-nil, length-append, length-drop, ne_eqb, eq-eqb, nat_le}
use Rattle.std.proofs.lemmas.Bool.Decides.{nat_tests}
use Rattle.std.specs.Option.{option_map}
use Rattle.ffs_sections.specs.Sections.{up4}
use Rattle.volume_reader.specs.declared.listed.ListedSection.{ListedSection}
use Rattle.volume_reader.specs.Sections.{is_extended, section_size, content_at, is_section, HasFields, listed_section, follows, IsNext, sections_from, sections_of}

pub under_eight : (n : ℕ) → nat_le 8 n ≡ false → n < 8
under_eight n h = grind (arith, nat_tests)

pub four_least : (ffs3 : Bool) (bytes : List ℕ) → 4 ≤ content_at ffs3 bytes
unfolding content_at
four_least ffs3 bytes = grind (arith, nat_tests)

eight_least : (ffs3 : Bool) (bytes : List ℕ) → is_extended ffs3 bytes ≡ true → 8 ≤ content_at ffs3 bytes
unfolding content_at
eight_least ffs3 bytes h = rw h (omega arith)

too_short : (ffs3 : Bool) (bytes : List ℕ) → length bytes < content_at ffs3 bytes → is_section ffs3 bytes ≡ false
unfolding is_section
too_short ffs3 bytes h = grind (arith, nat_tests)

-- where the fields don't lie within the bytes no section does
pub no_header : (ffs3 : Bool) (bytes : List ℕ) → length bytes < 4 → is_section ffs3 bytes ≡ false
no_header ffs3 bytes h = let f = four_least ffs3 bytes in too_short ffs3 bytes (omega arith)

pub no_extended : (ffs3 : Bool) (bytes : List ℕ) → is_extended ffs3 bytes ≡ true → length bytes < 8 → is_section ffs3 bytes ≡ false
no_extended ffs3 bytes e h = let f = eight_least ffs3 bytes e in too_short ffs3 bytes (omega arith)

content_within : (ffs3 : Bool) (bytes : List ℕ) → is_section ffs3 bytes ≡ true → content_at ffs3 bytes ≤ section_size ffs3 bytes
unfolding is_section
content_within ffs3 bytes h = grind (arith, nat_tests)

pub size_within : (ffs3 : Bool) (bytes : List ℕ) → is_section ffs3 bytes ≡ true → section_size ffs3 bytes ≤ length bytes
unfolding is_section
size_within ffs3 bytes h = grind (arith, nat_tests)

pub size_least : (ffs3 : Bool) (bytes : List ℕ) → is_section ffs3 bytes ≡ true → 4 ≤ section_size ffs3 bytes
size_least ffs3 bytes h = let f = four_least ffs3 bytes in let w = content_within ffs3 bytes h in omega arith

-- a section that follows lies within the body
pub next_of : (ffs3 : Bool) (body : List ℕ) (at : ℕ) → HasFields ffs3 (drop (up4 at) body) → 4 ≤ section_size ffs3 (drop (up4 at) body) → section_size ffs3 (drop (up4 at) body) ≤ length (drop (up4 at) body) → IsNext ffs3 body at
next_of ffs3 body at f s w =
    let l = length-drop (up4 at) body in record { fields = f; inside = omega arith; some = omega arith }

abbrev next_end : Bool → List ℕ → ℕ → ℕ
next_end ffs3 body at = up4 at + section_size ffs3 (drop (up4 at) body)

abbrev section_here : Bool → ℕ → List ℕ → ℕ → ListedSection
section_here ffs3 place body at = listed_section ffs3 (place + up4 at) (drop (up4 at) body)

one_more : (n : ℕ) (ffs3 : Bool) (place : ℕ) (body : List ℕ) (at : ℕ) → (at == length body) ≡ false → follows ffs3 body at ≡ true
    → sections_from (suc n) ffs3 place body at ≡ option_map (λ more. section_here ffs3 place body at ∷ more) (sections_from n ffs3 place body (next_end ffs3 body at))
unfolding sections_from
one_more n ffs3 place body at d f = rw (d, f) refl

front_one : (rows : List ListedSection) (x : ListedSection) (o : Option (List ListedSection))
    → option_map (λ more. rows ++ more) (option_map (λ more. x ∷ more) o) ≡ option_map (λ more. (rows ++ x ∷ []) ++ more) o
front_one rows x (Some xs) = ap (λ z. Some z) (sym (append_assoc rows (x ∷ []) xs))
front_one rows x None = refl

-- a turn: the rows so far, and those that are left
abbrev pub SoFar : Bool → ℕ → List ℕ → List ListedSection → ℕ → Type 0
SoFar ffs3 place body rows at = sections_of ffs3 place body ≡ option_map (λ more. rows ++ more) (sections_from (length body + 1 - length rows) ffs3 place body at)

pub sections_more : (ffs3 : Bool) (place : ℕ) (body : List ℕ) (rows : List ListedSection) (at : ℕ) → length rows ≤ at → at < length body → follows ffs3 body at ≡ true
    → SoFar ffs3 place body rows at → SoFar ffs3 place body (rows ++ section_here ffs3 place body at ∷ []) (next_end ffs3 body at)
sections_more ffs3 place body rows at count inside f so =
    let x : ListedSection = section_here ffs3 place body at in
    let d : (at == length body) ≡ false = ne_eqb at (length body) (λ e. omega (arith, e)) in
    let n : length body + 1 - length rows ≡ suc (length body - length rows) = omega arith in
    let l : length (rows ++ x ∷ []) ≡ length rows + 1 = length-append rows (x ∷ []) in
    let m : length body + 1 - length (rows ++ x ∷ []) ≡ length body - length rows = omega arith in
    so ∙ ap (λ k. option_map (λ more. rows ++ more) (sections_from k ffs3 place body at)) n
    ∙ ap (option_map (λ more. rows ++ more)) (one_more (length body - length rows) ffs3 place body at d f)
    ∙ front_one rows x (sections_from (length body - length rows) ffs3 place body (next_end ffs3 body at))
    ∙ ap (λ k. option_map (λ more. (rows ++ x ∷ []) ++ more) (sections_from k ffs3 place body (next_end ffs3 body at))) (sym m)

-- the same by the values that the code has
pub record Turned (ffs3 : Bool) (place : ℕ) (body : List ℕ) (rows : List ListedSection) (at : ℕ) : Type 0 where
  pub inside : at ≤ length body
  pub count : length rows ≤ at
  pub whole : SoFar ffs3 place body rows at

pub sections_turn : (ffs3 : Bool) (place : ℕ) (body : List ℕ) (rows new : List ListedSection) (at start size : ℕ) (bytes : List ℕ) (x : ListedSection)
    → start ≡ up4 at → bytes ≡ drop start body → size ≡ section_size ffs3 bytes → x ≡ listed_section ffs3 (place + start) bytes → new ≡ rows ++ x ∷ [] → IsNext ffs3 body at → length rows ≤ at
    → at < length body → follows ffs3 body at ≡ true → SoFar ffs3 place body rows at → Turned ffs3 place body new (start + size)
sections_turn ffs3 place body rows new at start size bytes x st by sz xe nw n count lt f so =
    let b : bytes ≡ drop (up4 at) body = by ∙ ap (λ k. drop k body) st in
    let s : size ≡ section_size ffs3 (drop (up4 at) body) = sz ∙ ap (section_size ffs3) b in
    let e : x ≡ section_here ffs3 place body at = xe ∙ ap (λ k. listed_section ffs3 (place + k) bytes) st ∙ ap (listed_section ffs3 (place + up4 at)) b in
    let l : length new ≡ length rows + 1 = ap length nw ∙ length-append rows (x ∷ []) in
    let w = sections_more ffs3 place body rows at count lt f so in
    let i = n.inside in
    let m = n.some in record {
      inside = omega arith;
      count = omega arith;
      whole = rw (nw, e, s, st) w;
    }

end_here : (n : ℕ) (ffs3 : Bool) (place : ℕ) (body : List ℕ) (at : ℕ) → (at == length body) ≡ true → sections_from (suc n) ffs3 place body at ≡ Some []
unfolding sections_from
end_here n ffs3 place body at e = rw e refl

none_here : (n : ℕ) (ffs3 : Bool) (place : ℕ) (body : List ℕ) (at : ℕ) → (at == length body) ≡ false → follows ffs3 body at ≡ false → sections_from (suc n) ffs3 place body at ≡ None
unfolding sections_from
none_here n ffs3 place body at d f = rw (d, f) refl

pub sections_end : (ffs3 : Bool) (place : ℕ) (body : List ℕ) (rows : List ListedSection) (at : ℕ) → length rows ≤ at → at ≡ length body → SoFar ffs3 place body rows at → Some rows ≡ sections_of ffs3 place body
sections_end ffs3 place body rows at count e so =
    let n : length body + 1 - length rows ≡ suc (length body - length rows) = omega arith in
    sym (so ∙ ap (λ k. option_map (λ more. rows ++ more) (sections_from k ffs3 place body at)) n
    ∙ ap (option_map (λ more. rows ++ more)) (end_here (length body - length rows) ffs3 place body at (eq-eqb at (length body) e)) ∙ ap (λ z. Some z) (append-nil rows))

pub sections_none : (ffs3 : Bool) (place : ℕ) (body : List ℕ) (rows : List ListedSection) (at : ℕ) → length rows ≤ at → at < length body → follows ffs3 body at ≡ false → SoFar ffs3 place body rows at → None ≡ sections_of ffs3 place body
sections_none ffs3 place body rows at count inside f so =
    let d : (at == length body) ≡ false = ne_eqb at (length body) (λ e. omega (arith, e)) in
    let n : length body + 1 - length rows ≡ suc (length body - length rows) = omega arith in
    sym (so ∙ ap (λ k. option_map (λ more. rows ++ more) (sections_from k ffs3 place body at)) n
    ∙ ap (option_map (λ more. rows ++ more)) (none_here (length body - length rows) ffs3 place body at d f))
