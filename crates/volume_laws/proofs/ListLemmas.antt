-- The sections of a body that is read stand one behind the other, and no other list of sections does.
use Rattle.std.proofs.Common.{◌≡◌, ◌↔◌, ℕ, zero, suc, ◌+◌, ◌-◌, ◌<◌, ◌≤◌, ◌==◌, Bool, true, false, if◌then◌else◌, List, [], ◌∷◌, length, drop, Option, Some, None, refl, ap, sym, ◌∙◌, arith, subst, length-drop, eq-eqb}
use Rattle.std.proofs.lemmas.Bool.Decides.{nat_tests}
use Rattle.std.specs.Option.{option_map}
use Rattle.ffs_sections.specs.Sections.{up4}
use Rattle.volume_reader.specs.declared.listed.ListedSection.{ListedSection}
use Rattle.volume_reader.specs.Sections.{section_size, is_section, listed_section, follows, sections_from, sections_of}
use Rattle.volume_reader.proofs.SectionLemmas.{size_within, size_least}
use Rattle.volume_laws.specs.Sections.{AreSectionsFrom, last, next}

abbrev row_at : Bool → ℕ → List ℕ → ℕ → ListedSection
row_at ffs3 place body at = listed_section ffs3 (place + up4 at) (drop (up4 at) body)

abbrev end_at : Bool → List ℕ → ℕ → ℕ
end_at ffs3 body at = up4 at + section_size ffs3 (drop (up4 at) body)

abbrev turn : Bool → ℕ → List ℕ → ℕ → (ended there : Bool) → Option (List ListedSection) → Option (List ListedSection)
turn ffs3 place body at ended there rest = if ended then Some []
    else if there then option_map (λ more. row_at ffs3 place body at ∷ more) rest else None

list_turn : (n : ℕ) (ffs3 : Bool) (place : ℕ) (body : List ℕ) (at : ℕ)
    → sections_from (suc n) ffs3 place body at ≡ turn ffs3 place body at (at == length body) (follows ffs3 body at) (sections_from n ffs3 place body (end_at ffs3 body at))
unfolding sections_from
list_turn n ffs3 place body at = refl

-- a section ends within the body, and has some bytes
record IsWithin (ffs3 : Bool) (body : List ℕ) (at : ℕ) : Type 0 where
  some : at + 4 ≤ end_at ffs3 body at
  inside : end_at ffs3 body at ≤ length body

there_section : (ffs3 : Bool) (body : List ℕ) (at : ℕ) → follows ffs3 body at ≡ true → is_section ffs3 (drop (up4 at) body) ≡ true
unfolding follows
there_section ffs3 body at f = grind (arith, nat_tests, f)

within : (ffs3 : Bool) (body : List ℕ) (at : ℕ) → follows ffs3 body at ≡ true → IsWithin ffs3 body at
within ffs3 body at f =
    let bytes : List ℕ = drop (up4 at) body in
    let s : is_section ffs3 bytes ≡ true = there_section ffs3 body at f in
    let a : 4 ≤ section_size ffs3 bytes = size_least ffs3 bytes s in
    let b : section_size ffs3 bytes ≤ length bytes = size_within ffs3 bytes s in
    let c : length bytes ≡ length body - up4 at = length-drop (up4 at) body in
    record { some = omega arith; inside = omega arith }

not_ended : (ffs3 : Bool) (body : List ℕ) (at : ℕ) → follows ffs3 body at ≡ true → (at == length body) ≡ false
not_ended ffs3 body at f =
    let w : IsWithin ffs3 body at = within ffs3 body at f in
    let a : at + 4 ≤ end_at ffs3 body at = w.some in
    let b : end_at ffs3 body at ≤ length body = w.inside in
    let c : at < length body = omega arith in grind (arith, nat_tests, c)

-- what the walk finds stands in the relation

found_by : (ffs3 : Bool) (place : ℕ) (body : List ℕ) (at : ℕ) (ended there : Bool) (rest : Option (List ListedSection)) (rows : List ListedSection) → (at == length body) ≡ ended → follows ffs3 body at ≡ there
    → ((more : List ListedSection) → rest ≡ Some more → AreSectionsFrom ffs3 place body (end_at ffs3 body at) more) → turn ffs3 place body at ended there rest ≡ Some rows → AreSectionsFrom ffs3 place body at rows
found_by ffs3 place body at true there rest rows l f k e =
    let s : [] ≡ rows = cc in
    let z : at ≡ length body = grind (arith, nat_tests, l) in subst (AreSectionsFrom ffs3 place body at) s (last at z)
found_by ffs3 place body at false true (Some more) rows l f k e =
    let row : ListedSection = row_at ffs3 place body at in
    let s : row ∷ more ≡ rows = cc in subst (AreSectionsFrom ffs3 place body at) s (next at row more (record { section = f; told = refl }) (k more refl))
found_by ffs3 place body at false true None rows l f k e = absurd cc
found_by ffs3 place body at false false rest rows l f k e = absurd cc

found_stands : (n : ℕ) (ffs3 : Bool) (place : ℕ) (body : List ℕ) (at : ℕ) (rows : List ListedSection) → sections_from n ffs3 place body at ≡ Some rows → AreSectionsFrom ffs3 place body at rows
unfolding sections_from
found_stands zero ffs3 place body at rows e = absurd cc
found_stands (suc n) ffs3 place body at rows e =
    found_by ffs3 place body at (at == length body) (follows ffs3 body at) (sections_from n ffs3 place body (end_at ffs3 body at)) rows refl refl
    (λ more o. found_stands n ffs3 place body (end_at ffs3 body at) more o) e

-- what stands in the relation the walk finds

stands_found : (ffs3 : Bool) (place : ℕ) (body : List ℕ) (at : ℕ) (rows : List ListedSection) → AreSectionsFrom ffs3 place body at rows → (n : ℕ) → length body < n + at → sections_from n ffs3 place body at ≡ Some rows
stands_found ffs3 place body at [] (last _ z) zero h = absurd (omega arith)
stands_found ffs3 place body at [] (last _ z) (suc n) h =
    let rest : Option (List ListedSection) = sections_from n ffs3 place body (end_at ffs3 body at) in
    list_turn n ffs3 place body at ∙ ap (λ b. turn ffs3 place body at b (follows ffs3 body at) rest) (eq-eqb at (length body) z)
stands_found ffs3 place body at (row ∷ rows) (next _ _ _ s more) zero h =
    let w : IsWithin ffs3 body at = within ffs3 body at s.section in
    let a : at + 4 ≤ end_at ffs3 body at = w.some in
    let b : end_at ffs3 body at ≤ length body = w.inside in absurd (omega arith)
stands_found ffs3 place body at (row ∷ rows) (next _ _ _ s more) (suc n) h =
    let w : IsWithin ffs3 body at = within ffs3 body at s.section in
    let a : at + 4 ≤ end_at ffs3 body at = w.some in
    let rest : Option (List ListedSection) = sections_from n ffs3 place body (end_at ffs3 body at) in
    list_turn n ffs3 place body at ∙ ap (λ b. turn ffs3 place body at b (follows ffs3 body at) rest) (not_ended ffs3 body at s.section)
    ∙ ap (λ b. turn ffs3 place body at false b rest) s.section
    ∙ ap (option_map (λ more. row_at ffs3 place body at ∷ more)) (stands_found ffs3 place body (end_at ffs3 body at) rows more n (omega arith))
    ∙ ap (λ r. Some (r ∷ rows)) (sym s.told)

pub sections_read : (ffs3 : Bool) (place : ℕ) (body : List ℕ) (rows : List ListedSection) → sections_of ffs3 place body ≡ Some rows ↔ AreSectionsFrom ffs3 place body 0 rows
sections_read ffs3 place body rows = (
  found_stands (length body + 1) ffs3 place body 0 rows,
  λ s. stands_found ffs3 place body 0 rows s (length body + 1) (omega arith),
)

abbrev given : List ListedSection → Option (List ListedSection)
given rows = Some rows

pub sections_one : (ffs3 : Bool) (place : ℕ) (body : List ℕ) (rows others : List ListedSection) → AreSectionsFrom ffs3 place body 0 rows → AreSectionsFrom ffs3 place body 0 others → rows ≡ others
sections_one ffs3 place body rows others s t =
    let e : given rows ≡ given others =
    sym (stands_found ffs3 place body 0 rows s (length body + 1) (omega arith)) ∙ stands_found ffs3 place body 0 others t (length body + 1) (omega arith) in cc
