-- A file whose modules are moved has the same sections in the same places.
use Rattle.std.proofs.Common.{◌≡◌, ◌≢◌, ℕ, zero, suc, ◌+◌, ◌-◌, ◌<◌, ◌≤◌, ◌==◌, ◌&&◌, ◌||◌, Bool, true, false, if◌then◌else◌, nat_le, min, List, [], ◌∷◌, ◌++◌, length, get_or, take, drop, All, Option, Some, None, Ok, refl, ap, sym, ◌∙◌, arith, subst, append_assoc, length-drop, length-take, ne_eqb}
use Rattle.std.proofs.lemmas.Bool.Decides.{nat_tests}
use Rattle.std.proofs.lemmas.List.{get_or-drop, get_or-take, ext_get_or}
use Rattle.std.proofs.lemmas.List.Elements.{All-head, All-tail}
use Rattle.std.specs.List.{list_any, list_all}
use Rattle.std.specs.Option.{option_map}
use Rattle.build_base.specs.declared.fault.Place.{Place}
use Rattle.ffs_sections.specs.Sections.{up4}
use Rattle.ffs_sections.specs.File.{header_len}
use Rattle.volume_reader.specs.declared.listed.ListedSection.{ListedSection}
use Rattle.volume_reader.specs.Sections.{short_size, section_kind, extended_size, is_extended, section_size, content_at, has_size_form, is_section, listed_section, follows, sections_from, sections_of}
use Rattle.volume_reader.proofs.SectionLemmas.{four_least}
use Rattle.image_rebase.specs.Changes.{is_in, content_changes, section_changes, sections_change, file_changes}
use Rattle.image_rebase.specs.Files.{has_module, content_length, content_in, has_checksum, has_sections, file_head, file_body, moved_sections, with_found, moved_bytes}
use Rattle.image_rebase.proofs.SameLemmas.{either}
use Rattle.image_rebase.proofs.BodyLemmas.{same_file}
use Rattle.volume_laws.specs.MovedBytes.{IsOutside}
use Rattle.volume_laws.proofs.HeadLemmas.{head_long, nineteen_stays, head_same}
use Rattle.volume_laws.proofs.WordLemmas.{word_same, parted_any}

-- whether a place is one of the content of a module
abbrev holds : ℕ → ListedSection → Bool
holds k section = has_module section && is_in section.start (content_length section) k

-- All bytes stay but those of modules' contents.
record Kept (sections : List ListedSection) (body moved : List ℕ) : Type 0 where
  size : length moved ≡ length body
  byte : (k : ℕ) → list_any (holds k) sections ≡ false → get_or moved k 0 ≡ get_or body k 0

-- The header of a section whose bytes stay.
record SameHead (ffs3 : Bool) (old new : List ℕ) : Type 0 where
  extended : is_extended ffs3 new ≡ is_extended ffs3 old
  kind : section_kind new ≡ section_kind old
  at : content_at ffs3 new ≡ content_at ffs3 old
  size : section_size ffs3 new ≡ section_size ffs3 old
  form : has_size_form ffs3 new ≡ has_size_form ffs3 old

below : (count k : ℕ) → is_in 0 count k ≡ true → k < count
unfolding is_in
below count k h = grind (arith, nat_tests, h)

between : (k : ℕ) → is_in 4 4 k ≡ true → k < 8
unfolding is_in
between k h = grind (arith, nat_tests, h)

eight_least : (ffs3 : Bool) (bytes : List ℕ) → is_extended ffs3 bytes ≡ true → 8 ≤ content_at ffs3 bytes
unfolding content_at
eight_least ffs3 bytes h = rw h (omega arith)

head_extended : (b : Bool) (ffs3 : Bool) (old new : List ℕ) → is_extended ffs3 old ≡ b → is_extended ffs3 new ≡ b → short_size new ≡ short_size old → section_kind new ≡ section_kind old
    → (b ≡ true → extended_size new ≡ extended_size old) → SameHead ffs3 old new
unfolding content_at section_size has_size_form
head_extended true ffs3 old new o n s k x =
    let e : extended_size new ≡ extended_size old = x refl in
    record {
      extended = n ∙ sym o;
      kind = k;
      at = rw (n, o, k) refl;
      size = rw (n, o, e) refl;
      form = rw (n, o, e) refl;
    }
head_extended false ffs3 old new o n s k x = record {
  extended = n ∙ sym o;
  kind = k;
  at = rw (n, o, k) refl;
  size = rw (n, o, s) refl;
  form = rw (n, o, s) refl;
}

extended_same : (ffs3 : Bool) (old new : List ℕ) → short_size new ≡ short_size old → is_extended ffs3 new ≡ is_extended ffs3 old
unfolding is_extended
extended_same ffs3 old new e = rw e refl

same_head : (ffs3 : Bool) (old new : List ℕ) → ((k : ℕ) → k < content_at ffs3 old → get_or new k 0 ≡ get_or old k 0) → SameHead ffs3 old new
unfolding short_size section_kind extended_size
same_head ffs3 old new h =
    let four : 4 ≤ content_at ffs3 old = four_least ffs3 old in
    let s : short_size new ≡ short_size old = word_same 0 3 old new (λ k i. let l : k < 3 = below 3 k i in h k (omega arith)) in
    head_extended (is_extended ffs3 old) ffs3 old new refl (extended_same ffs3 old new s) s (h 3 (omega arith))
    (λ x. let eight : 8 ≤ content_at ffs3 old = eight_least ffs3 old x in word_same 4 4 old new (λ k i. let l : k < 8 = between k i in h k (omega arith)))

same_section : (ffs3 : Bool) (old new : List ℕ) → SameHead ffs3 old new → length new ≡ length old → is_section ffs3 new ≡ is_section ffs3 old
unfolding is_section
same_section ffs3 old new s l = rw (s.form, s.at, s.size, l) refl

-- A section that follows still follows where the bytes up to its content stay.

module _ (ffs3 : Bool) (body moved : List ℕ) (size : length moved ≡ length body) where
  abbrev start_of : ℕ → List ℕ → ℕ
  start_of at bytes = up4 at + content_at ffs3 (drop (up4 at) bytes)

  drop_size : (at : ℕ) → length (drop at moved) ≡ length (drop at body)
  drop_size at = length-drop at moved ∙ ap (λ n. n - at) size ∙ sym (length-drop at body)

  head_there : (at : ℕ) → ((k : ℕ) → at ≤ k → k < start_of at body → get_or moved k 0 ≡ get_or body k 0) → SameHead ffs3 (drop (up4 at) body) (drop (up4 at) moved)
  head_there at h =
      same_head ffs3 (drop (up4 at) body) (drop (up4 at) moved)
      (λ k l. get_or-drop (up4 at) moved k 0 ∙ h (up4 at + k) (omega arith) (omega arith) ∙ sym (get_or-drop (up4 at) body k 0))

  gap_same : (at : ℕ) → ((k : ℕ) → at ≤ k → k < start_of at body → get_or moved k 0 ≡ get_or body k 0) → take (up4 at - at) (drop at moved) ≡ take (up4 at - at) (drop at body)
  gap_same at h =
      let n : ℕ = up4 at - at in
      let l : length (take n (drop at moved)) ≡ length (take n (drop at body)) = length-take n (drop at moved) ∙ ap (min n) (drop_size at) ∙ sym (length-take n (drop at body)) in
      ext_get_or 0 (take n (drop at moved)) (take n (drop at body)) l
      (λ i lt.
      let less : i < n = let m = length-take n (drop at moved) in grind (arith, m, lt) in
      get_or-take n (drop at moved) i 0 less ∙ get_or-drop at moved i 0 ∙ h (at + i) (omega arith) (omega arith) ∙ sym (get_or-drop at body i 0) ∙ sym (get_or-take n (drop at body) i 0 less))

  follows_same : (at : ℕ) → ((k : ℕ) → at ≤ k → k < start_of at body → get_or moved k 0 ≡ get_or body k 0) → follows ffs3 moved at ≡ follows ffs3 body at
  unfolding follows
  follows_same at h =
      ap (λ z. list_all (λ b. b == 0) z && is_section ffs3 (drop (up4 at) moved)) (gap_same at h)
      ∙ ap (λ b. list_all (λ b. b == 0) (take (up4 at - at) (drop at body)) && b) (same_section ffs3 (drop (up4 at) body) (drop (up4 at) moved) (head_there at h) (drop_size (up4 at)))

-- Where modules' contents lie, from an end on.

abbrev section_here : Bool → ℕ → List ℕ → ℕ → ListedSection
section_here ffs3 place body at = listed_section ffs3 (place + up4 at) (drop (up4 at) body)

abbrev end_here : Bool → List ℕ → ℕ → ℕ
end_here ffs3 body at = up4 at + section_size ffs3 (drop (up4 at) body)

follows_section : (ffs3 : Bool) (body : List ℕ) (at : ℕ) → follows ffs3 body at ≡ true → is_section ffs3 (drop (up4 at) body) ≡ true
unfolding follows
follows_section ffs3 body at f = grind (arith, nat_tests, f)

content_within : (ffs3 : Bool) (bytes : List ℕ) → is_section ffs3 bytes ≡ true → content_at ffs3 bytes ≤ section_size ffs3 bytes
unfolding is_section
content_within ffs3 bytes h = grind (arith, nat_tests, h)

content_whole : (ffs3 : Bool) (place : ℕ) (bytes : List ℕ) → is_section ffs3 bytes ≡ true → has_module (listed_section ffs3 place bytes) ≡ true
    → content_at ffs3 bytes + content_length (listed_section ffs3 place bytes) ≡ section_size ffs3 bytes
unfolding is_section has_size_form content_at section_size
content_whole ffs3 place bytes s h = grind (arith, nat_tests, s, h)

-- a list of sections from an end on, by its first one
record IsFirst (n : ℕ) (ffs3 : Bool) (body : List ℕ) (at : ℕ) (sections : List ListedSection) : Type 0 where
  here : follows ffs3 body at ≡ true
  more : List ListedSection
  rest : sections_from n ffs3 0 body (end_here ffs3 body at) ≡ Some more
  whole : section_here ffs3 0 body at ∷ more ≡ sections

first_some : (n : ℕ) (ffs3 : Bool) (body : List ℕ) (at : ℕ) (found : Option (List ListedSection)) (sections : List ListedSection) → follows ffs3 body at ≡ true
    → sections_from n ffs3 0 body (end_here ffs3 body at) ≡ found → option_map (λ more. section_here ffs3 0 body at ∷ more) found ≡ Some sections → IsFirst n ffs3 body at sections
first_some n ffs3 body at None sections f r e = absurd cc
first_some n ffs3 body at (Some more) sections f r e = record { here = f; more = more; rest = r; whole = cc }

first_by : {P : Type 0} (n : ℕ) (ffs3 : Bool) (body : List ℕ) (at : ℕ) (last there : Bool) (sections : List ListedSection) → (at == length body) ≡ last → follows ffs3 body at ≡ there
    → (if last then Some [] else if there then option_map (λ more. section_here ffs3 0 body at ∷ more) (sections_from n ffs3 0 body (end_here ffs3 body at)) else None) ≡ Some sections
    → ((at == length body) ≡ true → [] ≡ sections → P) → ((at == length body) ≡ false → IsFirst n ffs3 body at sections → P) → P
first_by n ffs3 body at true there sections l f e none some = none l cc
first_by n ffs3 body at false true sections l f e none some =
    some l (first_some n ffs3 body at (sections_from n ffs3 0 body (end_here ffs3 body at)) sections f refl e)
first_by n ffs3 body at false false sections l f e none some = absurd cc

first_of : {P : Type 0} (n : ℕ) (ffs3 : Bool) (body : List ℕ) (at : ℕ) (sections : List ListedSection) → sections_from (suc n) ffs3 0 body at ≡ Some sections
    → ((at == length body) ≡ true → [] ≡ sections → P) → ((at == length body) ≡ false → IsFirst n ffs3 body at sections → P) → P
unfolding sections_from
first_of n ffs3 body at sections e none some = first_by n ffs3 body at (at == length body) (follows ffs3 body at) sections refl refl e none some

not_before : (a : Bool) (start count k : ℕ) → k < start → (a && is_in start count k) ≡ false
unfolding is_in
not_before true start count k h = grind (arith, nat_tests, h)
not_before false start count k h = refl

not_after : (start count k : ℕ) → start + count ≤ k → is_in start count k ≡ false
unfolding is_in
not_after start count k h = grind (arith, nat_tests, h)

neither : (a b : Bool) → a ≡ false → b ≡ false → (a || b) ≡ false
neither true b e f = e
neither false b e f = f

any_both : {A : Type 0} (f : A → Bool) (xs ys : List A) → list_any f xs ≡ false → list_any f ys ≡ false → list_any f (xs ++ ys) ≡ false
any_both f [] ys e g = g
any_both f (x ∷ xs) ys e g =
    let p = parted_any f (x ∷ []) xs e in
    let q : (f x || false) ≡ false = p.0 in neither (f x) (list_any f (xs ++ ys)) (without (f x) q) (any_both f xs ys p.1 g)
  where
    without : (a : Bool) → (a || false) ≡ false → a ≡ false
    without true e = e
    without false e = e

-- no content lies before the end that sections follow on
ahead : (n : ℕ) (ffs3 : Bool) (body : List ℕ) (at : ℕ) (sections : List ListedSection) → sections_from n ffs3 0 body at ≡ Some sections → (k : ℕ) → k < at → list_any (holds k) sections ≡ false
unfolding sections_from
ahead zero ffs3 body at sections e k h = absurd cc
ahead (suc n) ffs3 body at sections e k h =
    first_of n ffs3 body at sections e (λ l s. ap (list_any (holds k)) (sym s))
    (λ l f.
    let x : ListedSection = section_here ffs3 0 body at in
    ap (list_any (holds k)) (sym f.whole)
    ∙ neither (holds k x) (list_any (holds k) f.more) (not_before (has_module x) x.start (content_length x) k (omega arith)) (ahead n ffs3 body (end_here ffs3 body at) f.more f.rest k (omega arith)))

-- a section's content ends with it
behind : (ffs3 : Bool) (body : List ℕ) (at k : ℕ) → follows ffs3 body at ≡ true → end_here ffs3 body at ≤ k → holds k (section_here ffs3 0 body at) ≡ false
behind ffs3 body at k f h =
    let x : ListedSection = section_here ffs3 0 body at in
    let s : is_section ffs3 (drop (up4 at) body) ≡ true = follows_section ffs3 body at f in
    elim (has_module x) as (λ b. has_module x ≡ b → (b && is_in x.start (content_length x) k) ≡ false) [
      | true ↦ λ t. let c = content_whole ffs3 (0 + up4 at) (drop (up4 at) body) s t in not_after x.start (content_length x) k (omega (arith, c, h))
      | false ↦ λ t. refl
    ] refl

-- The same sections are found in the body that is moved.

abbrev list_here : ℕ → Bool → ℕ → List ℕ → ℕ → Option (List ListedSection)
list_here n ffs3 place body at = option_map (λ more. section_here ffs3 place body at ∷ more) (sections_from n ffs3 place body (end_here ffs3 body at))

one_more : (n : ℕ) (ffs3 : Bool) (place : ℕ) (body : List ℕ) (at : ℕ) → (at == length body) ≡ false → follows ffs3 body at ≡ true → sections_from (suc n) ffs3 place body at ≡ list_here n ffs3 place body at
unfolding sections_from
one_more n ffs3 place body at l f = rw (l, f) refl

end_of_list : (n : ℕ) (ffs3 : Bool) (place : ℕ) (body : List ℕ) (at : ℕ) → (at == length body) ≡ true → sections_from (suc n) ffs3 place body at ≡ Some []
unfolding sections_from
end_of_list n ffs3 place body at l = rw l refl

row_same : (ffs3 : Bool) (place : ℕ) (old new : List ℕ) → SameHead ffs3 old new → listed_section ffs3 place new ≡ listed_section ffs3 place old
row_same ffs3 place old new s =
    ap (λ z. record { kind = z; size = section_size ffs3 new; start = place + content_at ffs3 new }) s.kind ∙ ap (λ z. record { kind = section_kind old; size = z; start = place + content_at ffs3 new }) s.size
    ∙ ap (λ z. record { kind = section_kind old; size = section_size ffs3 old; start = place + z }) s.at

sections_kept : (n : ℕ) (ffs3 : Bool) (place : ℕ) (body moved : List ℕ) (at : ℕ) (done rest : List ListedSection) → Kept (done ++ rest) body moved → ((k : ℕ) → at ≤ k → list_any (holds k) done ≡ false)
    → sections_from n ffs3 0 body at ≡ Some rest → sections_from n ffs3 place moved at ≡ sections_from n ffs3 place body at
unfolding sections_from
sections_kept zero ffs3 place body moved at done rest k d e = absurd cc
sections_kept (suc n) ffs3 place body moved at done rest k d e =
    first_of n ffs3 body at rest e
    (λ l s. end_of_list n ffs3 place moved at (ap (λ z. at == z) k.size ∙ l) ∙ sym (end_of_list n ffs3 place body at l))
    (λ l f.
    let x : ListedSection = section_here ffs3 0 body at in
    let s : is_section ffs3 (drop (up4 at) body) ≡ true = follows_section ffs3 body at f.here in
    let c : content_at ffs3 (drop (up4 at) body) ≤ section_size ffs3 (drop (up4 at) body) = content_within ffs3 (drop (up4 at) body) s in
    let bytes : (j : ℕ) → at ≤ j → j < up4 at + content_at ffs3 (drop (up4 at) body) → get_or moved j 0 ≡ get_or body j 0 =
    λ j a b.
    k.byte j
    (any_both (holds j) done rest (d j a)
    (ap (list_any (holds j)) (sym f.whole)
    ∙ neither (holds j x) (list_any (holds j) f.more) (not_before (has_module x) x.start (content_length x) j (omega arith)) (ahead n ffs3 body (end_here ffs3 body at) f.more f.rest j (omega arith)))) in
    let same : SameHead ffs3 (drop (up4 at) body) (drop (up4 at) moved) = head_there ffs3 body moved k.size at bytes in
    let there : follows ffs3 moved at ≡ true = follows_same ffs3 body moved k.size at bytes ∙ f.here in
    let next : end_here ffs3 moved at ≡ end_here ffs3 body at = ap (λ z. up4 at + z) same.size in
    let whole : (done ++ x ∷ []) ++ f.more ≡ done ++ rest = append_assoc done (x ∷ []) f.more ∙ ap (λ z. done ++ z) f.whole in
    let after : (j : ℕ) → end_here ffs3 body at ≤ j → list_any (holds j) (done ++ x ∷ []) ≡ false =
    λ j a. any_both (holds j) done (x ∷ []) (d j (omega arith)) (neither (holds j x) false (behind ffs3 body at j f.here a) refl) in
    let ih : sections_from n ffs3 place moved (end_here ffs3 body at) ≡ sections_from n ffs3 place body (end_here ffs3 body at) =
    sections_kept n ffs3 place body moved (end_here ffs3 body at) (done ++ x ∷ []) f.more (subst (λ z. Kept z body moved) (sym whole) k) after f.rest in
    one_more n ffs3 place moved at (ap (λ z. at == z) k.size ∙ l) there
    ∙ ap (λ r. option_map (λ more. r ∷ more) (sections_from n ffs3 place moved (end_here ffs3 moved at))) (row_same ffs3 (place + up4 at) (drop (up4 at) body) (drop (up4 at) moved) same)
    ∙ ap (λ z. option_map (λ more. section_here ffs3 place body at ∷ more) (sections_from n ffs3 place moved z)) next
    ∙ ap (option_map (λ more. section_here ffs3 place body at ∷ more)) ih ∙ sym (one_more n ffs3 place body at l f.here))

kept_sections : (ffs3 : Bool) (place : ℕ) (body moved : List ℕ) (sections : List ListedSection) → Kept sections body moved → sections_of ffs3 0 body ≡ Some sections → sections_of ffs3 place moved ≡ sections_of ffs3 place body
kept_sections ffs3 place body moved sections k e =
    ap (λ n. sections_from (n + 1) ffs3 place moved 0) k.size ∙ sections_kept (length body + 1) ffs3 place body moved 0 [] sections k (λ j h. refl) e

-- A move leaves all bytes of a file's body but those of modules' contents.

any_less : (f g : ListedSection → Bool) (xs : List ListedSection) → ((x : ListedSection) → f x ≡ false → g x ≡ false) → list_any f xs ≡ false → list_any g xs ≡ false
any_less f g [] h e = refl
any_less f g (x ∷ xs) h e = let p = either (f x) (list_any f xs) e in neither (g x) (list_any g xs) (h x p.0) (any_less f g xs h p.1)

all_three : (a b c : Bool) → (a && b) ≡ false → (a && b && c) ≡ false
all_three true true c e = absurd cc
all_three true false c e = refl
all_three false b c e = refl

held_same : (place : Place) (body : List ℕ) (k : ℕ) (section : ListedSection) → holds k section ≡ false → section_changes place body k section ≡ false
unfolding section_changes
held_same place body k section h =
    all_three (has_module section) (is_in section.start (content_length section) k) (content_changes place section.kind (content_in body section) (k - section.start)) h

no_sum : (a : Bool) (head k : ℕ) → 24 ≤ head → (a && head + k == 0x11) ≡ false
no_sum true head k h = grind (arith, nat_tests, h)
no_sum false head k h = refl

no_list : (a b c : Bool) → c ≡ false → (a && b && c) ≡ false
no_list true true c e = e
no_list true false c e = refl
no_list false b c e = refl

body_stays : (ffs3 : Bool) (place : Place) (bytes : List ℕ) (k : ℕ) (sections : List ListedSection) → sections_of ffs3 0 (file_body bytes) ≡ Some sections → list_any (holds k) sections ≡ false
    → file_changes ffs3 place bytes (header_len bytes + k) ≡ false
unfolding file_changes
body_stays ffs3 place bytes k sections f h =
    let at : ℕ = header_len bytes in
    let z : at + k - at ≡ k = omega arith in
    let none : list_any (section_changes place (file_body bytes) k) sections ≡ false = any_less (holds k) (section_changes place (file_body bytes) k) sections (held_same place (file_body bytes) k) h in
    neither (has_checksum (file_head bytes) && at + k == 0x11) (has_sections bytes && nat_le at (at + k) && sections_change place (file_body bytes) (at + k - at) (sections_of ffs3 0 (file_body bytes)))
    (no_sum (has_checksum (file_head bytes)) at k (head_long bytes))
    (no_list (has_sections bytes) (nat_le at (at + k)) (sections_change place (file_body bytes) (at + k - at) (sections_of ffs3 0 (file_body bytes)))
    (ap (λ n. sections_change place (file_body bytes) n (sections_of ffs3 0 (file_body bytes))) z ∙ ap (sections_change place (file_body bytes) k) f ∙ none))

body_kept : (ffs3 : Bool) (place : Place) (base address : ℕ) (bytes moved : List ℕ) (sections : List ListedSection) → moved_bytes ffs3 place base address bytes ≡ Ok moved
    → sections_of ffs3 0 (file_body bytes) ≡ Some sections → Kept sections (file_body bytes) (file_body moved)
body_kept ffs3 place base address bytes moved sections e f =
    let at : ℕ = header_len bytes in
    let n : header_len moved ≡ at = head_same bytes moved ((same_file ffs3 place base address bytes moved 19 e).byte (nineteen_stays ffs3 place bytes) 0) in
    record {
      size = length-drop (header_len moved) moved ∙ ap (λ k. length moved - k) n ∙ ap (λ k. k - at) (same_file ffs3 place base address bytes moved 0 e).size ∙ sym (length-drop at bytes);
      byte = λ k h.
          ap (λ j. get_or (drop j moved) k 0) n ∙ get_or-drop at moved k 0 ∙ (same_file ffs3 place base address bytes moved (at + k) e).byte (body_stays ffs3 place bytes k sections f h) 0 ∙ sym (get_or-drop at bytes k 0);
    }

same_found : (ffs3 : Bool) (place : Place) (base address : ℕ) (bytes moved : List ℕ) (p : ℕ) (found : Option (List ListedSection)) → moved_bytes ffs3 place base address bytes ≡ Ok moved
    → sections_of ffs3 0 (file_body bytes) ≡ found → with_found place base address bytes found ≡ Ok moved → sections_of ffs3 p (file_body moved) ≡ sections_of ffs3 p (file_body bytes)
same_found ffs3 place base address bytes moved p None e f w = let s : bytes ≡ moved = cc in ap (λ z. sections_of ffs3 p (file_body z)) (sym s)
same_found ffs3 place base address bytes moved p (Some sections) e f w =
    kept_sections ffs3 p (file_body bytes) (file_body moved) sections (body_kept ffs3 place base address bytes moved sections e f) f

-- the sections of a moved file are those of the file
pub sections_same : (ffs3 : Bool) (place : Place) (base address : ℕ) (bytes moved : List ℕ) (p : ℕ) → moved_bytes ffs3 place base address bytes ≡ Ok moved
    → sections_of ffs3 p (file_body moved) ≡ sections_of ffs3 p (file_body bytes)
unfolding moved_bytes moved_sections
sections_same ffs3 place base address bytes moved p e =
    elim (has_sections bytes) as (λ b. (if b then with_found place base address bytes (sections_of ffs3 0 (file_body bytes)) else Ok bytes) ≡ Ok moved
    → sections_of ffs3 p (file_body moved) ≡ sections_of ffs3 p (file_body bytes)) [
      | true ↦ λ o. same_found ffs3 place base address bytes moved p (sections_of ffs3 0 (file_body bytes)) e refl o
      | false ↦ λ o. let s : bytes ≡ moved = cc in ap (λ z. sections_of ffs3 p (file_body z)) (sym s)
    ] e

-- A place outside of modules and of the file checksum stays.

no_check : (a : Bool) (k : ℕ) → (a ≡ true → k ≢ 0x11) → (a && k == 0x11) ≡ false
no_check true k h = ne_eqb k 0x11 (h refl)
no_check false k h = refl

shifted : (head start count k : ℕ) → head ≤ k → is_in (head + start) count k ≡ false → is_in start count (k - head) ≡ false
unfolding is_in
shifted head start count k h e = grind (arith, nat_tests, h, e)

not_held : (head k : ℕ) (section : ListedSection) → head ≤ k → (has_module section ≡ true → is_in (head + section.start) (content_length section) k ≡ false) → holds (k - head) section ≡ false
not_held head k section h o =
    elim (has_module section) as (λ b. has_module section ≡ b → (b && is_in section.start (content_length section) (k - head)) ≡ false) [
      | true ↦ λ t. shifted head section.start (content_length section) k h (o t)
      | false ↦ λ t. refl
    ] refl

abbrev IsApart : ℕ → ℕ → ListedSection → Type 0
IsApart head k section = has_module section ≡ true → is_in (head + section.start) (content_length section) k ≡ false

none_held : (head k : ℕ) (sections : List ListedSection) → head ≤ k → All (IsApart head k) sections → list_any (holds (k - head)) sections ≡ false
none_held head k [] h a = refl
none_held head k (x ∷ xs) h a =
    neither (holds (k - head) x) (list_any (holds (k - head)) xs) (not_held head k x h (All-head (IsApart head k) x xs a)) (none_held head k xs h (All-tail (IsApart head k) x xs a))

none_changed : (place : Place) (body : List ℕ) (head k : ℕ) (found : Option (List ListedSection)) → head ≤ k → ((sections : List ListedSection) → found ≡ Some sections → All (IsApart head k) sections)
    → sections_change place body (k - head) found ≡ false
none_changed place body head k None h a = refl
none_changed place body head k (Some sections) h a =
    any_less (holds (k - head)) (section_changes place body (k - head)) sections (held_same place body (k - head)) (none_held head k sections h (a sections refl))

part_stays : (a b c : Bool) → (a ≡ true → b ≡ true → c ≡ false) → (a && b && c) ≡ false
part_stays true true c h = h refl refl
part_stays true false c h = refl
part_stays false b c h = refl

at_least : (a b : ℕ) → nat_le a b ≡ true → a ≤ b
at_least a b h = grind (arith, nat_tests, h)

pub outside_stays : (ffs3 : Bool) (place : Place) (bytes : List ℕ) (k : ℕ) → IsOutside ffs3 bytes k → file_changes ffs3 place bytes k ≡ false
unfolding file_changes
outside_stays ffs3 place bytes k o =
    let head : ℕ = header_len bytes in
    let found : Option (List ListedSection) = sections_of ffs3 0 (file_body bytes) in
    neither (has_checksum (file_head bytes) && k == 0x11) (has_sections bytes && nat_le head k && sections_change place (file_body bytes) (k - head) found)
    (no_check (has_checksum (file_head bytes)) k o.check)
    (part_stays (has_sections bytes) (nat_le head k) (sections_change place (file_body bytes) (k - head) found)
    (λ t h. none_changed place (file_body bytes) head k found (at_least head k h) (λ sections f. o.contents sections t f)))
