-- A byte of a body, and of a file, that no move of its modules may change stays.
use Rattle.std.proofs.Common.{◌≡◌, ℕ, zero, suc, ◌+◌, ◌-◌, ◌<◌, ◌≤◌, inl, inr, ◌==◌, ◌&&◌, ◌||◌, Bool, true, false, if◌then◌else◌, nat_le, List, [], ◌∷◌, ◌++◌, length, get_or, take, drop, slice_set, Option, Some, None, Result, Ok, Err, refl, ap, sym, ◌∙◌, subst, arith, length-set, length-append, length-drop}
use Rattle.std.proofs.lemmas.List.{get_or-set_other, get_or-drop, get_or-take, get_or_append_left, get_or-append_right, length-take-le, take-append-drop}
use Rattle.std.proofs.lemmas.Bool.Decides.{nat_tests}
use Rattle.std.proofs.lemmas.Bool.{cases_lt, cases_eq}
use Rattle.std.specs.List.{list_any}
use Rattle.std.specs.Option.{option_map}
use Rattle.build_base.specs.First.{and_then, with_front}
use Rattle.build_base.specs.declared.fault.Place.{Place}
use Rattle.ffs_sections.specs.Sums.{zero_byte}
use Rattle.ffs_sections.specs.Sections.{up4}
use Rattle.ffs_sections.specs.File.{header_len}
use Rattle.volume_reader.specs.declared.listed.ListedSection.{ListedSection}
use Rattle.volume_reader.specs.Sections.{section_size, content_at as content_start, has_size_form, is_section, listed_section, follows, sections_from, sections_of}
use Rattle.image_rebase.specs.Moves.{moved_content}
use Rattle.image_rebase.specs.Files.{has_module, content_length, content_in, moved_from, has_checksum, resummed_head, with_body, file_head, file_body, with_found, moved_sections, has_sections, moved_bytes}
use Rattle.image_rebase.specs.Changes.{is_in, content_changes, section_changes, sections_change, file_changes}
use Rattle.image_rebase.proofs.SameLemmas.{SameAt, same_self, either, through, same_content}

-- a place of a module's section, or else the end before it
abbrev pub reached : Bool → ℕ → ℕ → ℕ
reached held place at = if held then place else at

-- the contents of modules lie behind one another, from a place on and within so many bytes
unfoldable pub Ordered : ℕ → ℕ → List ListedSection → Type 0
Ordered count at [] = at ≤ count
Ordered count at (section ∷ sections) =
    (at ≤ reached (has_module section) section.start at) × Ordered count (reached (has_module section) (section.start + content_length section) at) sections

reached_before : (held : Bool) (start before at : ℕ) → before ≤ at → at ≤ reached held start at → before ≤ reached held start before
reached_before true start before at h o = omega (arith, o)
reached_before false start before at h o = omega arith

reached_more : (held : Bool) (place before at : ℕ) → before ≤ at → reached held place before ≤ reached held place at
reached_more true place before at h = omega arith
reached_more false place before at h = h

ordered_before : (count at : ℕ) (sections : List ListedSection) (before : ℕ) → before ≤ at → Ordered count at sections → Ordered count before sections
unfolding Ordered
ordered_before count at [] before h o = omega (arith, o)
ordered_before count at (section ∷ sections) before h o = (
  reached_before (has_module section) section.start before at h o.0,
  ordered_before count (reached (has_module section) (section.start + content_length section) at) sections (reached (has_module section) (section.start + content_length section) before)
      (reached_more (has_module section) (section.start + content_length section) before at h) o.1,
)

reached_after : (held : Bool) (start length at : ℕ) → at ≤ reached held start at → at ≤ reached held (start + length) at
reached_after true start length at h = omega (arith, h)
reached_after false start length at h = omega arith

pub ordered_end : (count at : ℕ) (sections : List ListedSection) → Ordered count at sections → at ≤ count
unfolding Ordered
ordered_end count at [] o = o
ordered_end count at (section ∷ sections) o =
    let m : reached (has_module section) (section.start + content_length section) at ≤ count = ordered_end count (reached (has_module section) (section.start + content_length section) at) sections o.1 in
    let a = reached_after (has_module section) section.start (content_length section) at o.0 in
    omega arith

-- where a section's content and size agree
content_size : (ffs3 : Bool) (place : ℕ) (bytes : List ℕ) → is_section ffs3 bytes ≡ true → has_module (listed_section ffs3 place bytes) ≡ true
    → content_start ffs3 bytes + content_length (listed_section ffs3 place bytes) ≡ section_size ffs3 bytes
unfolding is_section has_size_form content_start section_size
content_size ffs3 place bytes s h = grind (arith, nat_tests, s, h)

follows_section : (ffs3 : Bool) (body : List ℕ) (at : ℕ) → follows ffs3 body at ≡ true → is_section ffs3 (drop (up4 at) body) ≡ true
unfolding follows
follows_section ffs3 body at f = grind (arith, nat_tests, f)

abbrev section_here : Bool → List ℕ → ℕ → ListedSection
section_here ffs3 body at = listed_section ffs3 (0 + up4 at) (drop (up4 at) body)

abbrev end_here : Bool → List ℕ → ℕ → ℕ
end_here ffs3 body at = up4 at + section_size ffs3 (drop (up4 at) body)

reached_here : (held : Bool) (start at : ℕ) → (held ≡ true → at ≤ start) → at ≤ reached held start at
reached_here true start at h = h refl
reached_here false start at h = omega arith

reached_next : (held : Bool) (place at end : ℕ) → (held ≡ true → place ≡ end) → at ≤ end → reached held place at ≤ end
reached_next true place at end h l = omega (arith, h refl)
reached_next false place at end h l = l

ordered_step : (ffs3 : Bool) (body : List ℕ) (at : ℕ) (more : List ListedSection) → follows ffs3 body at ≡ true → Ordered (length body) (end_here ffs3 body at) more
    → Ordered (length body) at (section_here ffs3 body at ∷ more)
unfolding Ordered
ordered_step ffs3 body at more f o =
    let x : ListedSection = section_here ffs3 body at in
    let s : is_section ffs3 (drop (up4 at) body) ≡ true = follows_section ffs3 body at f in
    let after : at ≤ end_here ffs3 body at = omega arith in
    let whole : has_module x ≡ true → x.start + content_length x ≡ end_here ffs3 body at =
    λ h. let c = content_size ffs3 (0 + up4 at) (drop (up4 at) body) s h in omega (arith, c) in (
      reached_here (has_module x) x.start at (λ h. omega arith),
      ordered_before (length body) (end_here ffs3 body at) more (reached (has_module x) (x.start + content_length x) at)
          (reached_next (has_module x) (x.start + content_length x) at (end_here ffs3 body at) whole after) o,
    )

ordered_some : (ffs3 : Bool) (body : List ℕ) (at : ℕ) (rest : Option (List ListedSection)) (sections : List ListedSection) → follows ffs3 body at ≡ true
    → ((more : List ListedSection) → rest ≡ Some more → Ordered (length body) (end_here ffs3 body at) more)
    → option_map (λ more. section_here ffs3 body at ∷ more) rest ≡ Some sections → Ordered (length body) at sections
ordered_some ffs3 body at (Some more) sections f o e =
    let k : section_here ffs3 body at ∷ more ≡ sections = cc in subst (Ordered (length body) at) k (ordered_step ffs3 body at more f (o more refl))
ordered_some ffs3 body at None sections f o e = absurd cc

ordered_none : (body : List ℕ) (at : ℕ) (sections : List ListedSection) → (at == length body) ≡ true → Some [] ≡ Some sections → Ordered (length body) at sections
unfolding Ordered
ordered_none body at sections t e =
    let k : [] ≡ sections = cc in
    let h : at ≤ length body = grind (arith, nat_tests, t) in subst (Ordered (length body) at) k h

ordered_follows : (b : Bool) (ffs3 : Bool) (body : List ℕ) (at : ℕ) (rest : Option (List ListedSection)) (sections : List ListedSection) → (b ≡ true → follows ffs3 body at ≡ true)
    → ((more : List ListedSection) → rest ≡ Some more → Ordered (length body) (end_here ffs3 body at) more)
    → (if b then option_map (λ more. section_here ffs3 body at ∷ more) rest else None) ≡ Some sections → Ordered (length body) at sections
ordered_follows true ffs3 body at rest sections f o e = ordered_some ffs3 body at rest sections (f refl) o e
ordered_follows false ffs3 body at rest sections f o e = absurd cc

ordered_from : (n : ℕ) (ffs3 : Bool) (body : List ℕ) (at : ℕ) (sections : List ListedSection) → sections_from n ffs3 0 body at ≡ Some sections → Ordered (length body) at sections
unfolding sections_from
ordered_from zero ffs3 body at sections e = absurd cc
ordered_from (suc n) ffs3 body at sections e =
    let rest : Option (List ListedSection) = sections_from n ffs3 0 body (end_here ffs3 body at) in
    elim (at == length body) as (λ b. (at == length body) ≡ b
    → (if b then Some [] else if follows ffs3 body at then option_map (λ more. section_here ffs3 body at ∷ more) rest else None) ≡ Some sections
    → Ordered (length body) at sections) [
      | true ↦ λ t o. ordered_none body at sections t o
      | false ↦ λ t o. ordered_follows (follows ffs3 body at) ffs3 body at rest sections (λ f. f) (λ more k. ordered_from n ffs3 body (end_here ffs3 body at) more k) o
    ] refl e

pub ordered_sections : (ffs3 : Bool) (body : List ℕ) (sections : List ListedSection) → sections_of ffs3 0 body ≡ Some sections → Ordered (length body) 0 sections
ordered_sections ffs3 body sections e = ordered_from (length body + 1) ffs3 body 0 sections e

-- What is left of a body from a place on, moved, is as long, and unless a place may change what stands there is the same.
pub record TailAt (changes : Bool) (at k : ℕ) (body moved : List ℕ) : Type 0 where
  pub size : length moved + at ≡ length body
  pub byte : changes ≡ false → at ≤ k → (d : ℕ) → get_or moved (k - at) d ≡ get_or body k d

byte_drop : (at k : ℕ) (body : List ℕ) (d : ℕ) → at ≤ k → get_or (drop at body) (k - at) d ≡ get_or body k d
byte_drop at k body d h = let e : at + (k - at) ≡ k = omega arith in get_or-drop at body (k - at) d ∙ ap (λ n. get_or body n d) e

tail_end : (at k : ℕ) (body moved : List ℕ) → at ≤ length body → drop at body ≡ moved → TailAt false at k body moved
tail_end at k body moved h e =
    let l : length moved ≡ length body - at = ap length (sym e) ∙ length-drop at body in record {
      size = omega arith;
      byte = λ f a d. ap (λ z. get_or z (k - at) d) (sym e) ∙ byte_drop at k body d a;
    }

part_long : (at count : ℕ) (body : List ℕ) → at + count ≤ length body → length (take count (drop at body)) ≡ count
part_long at count body h = let l : length (drop at body) ≡ length body - at = length-drop at body in length-take-le count (drop at body) (omega arith)

pub in_yes : (start count k : ℕ) → start ≤ k → k < start + count → is_in start count k ≡ true
unfolding is_in
in_yes start count k a b = grind (arith, nat_tests)

pub with_true : (a b : Bool) → a ≡ true → (a && b) ≡ false → b ≡ false
with_true true b t e = e
with_true false b t e = absurd cc

-- a body of what stands before a content, the content moved, and what is left
joined : (body content new tail moved : List ℕ) (at start count k : ℕ) (inner outer : Bool) → at ≤ start → start + count ≤ length body → content ≡ take count (drop start body)
    → SameAt inner (k - start) content new → TailAt outer (start + count) k body tail → (take (start - at) (drop at body) ++ new) ++ tail ≡ moved
    → TailAt ((is_in start count k && inner) || outer) at k body moved
joined body content new tail moved at start count k inner outer a b c s t e =
    let first : List ℕ = take (start - at) (drop at body) in
    let lf : length first ≡ start - at = part_long at (start - at) body (omega arith) in
    let lc : length content ≡ count = ap length c ∙ part_long start count body b in
    let ln : length new ≡ count = s.size ∙ lc in
    let lt : length tail + (start + count) ≡ length body = t.size in
    let la : length (first ++ new) ≡ length first + length new = length-append first new in
    let ll : length (first ++ new) ≡ start - at + count = omega arith in
    record {
      size =
          let lm : length moved ≡ length (first ++ new) + length tail = ap length (sym e) ∙ length-append (first ++ new) tail in omega arith;
      byte = λ h l d.
          let p = either (is_in start count k && inner) outer h in
          let o : get_or moved (k - at) d ≡ get_or ((first ++ new) ++ tail) (k - at) d = ap (λ z. get_or z (k - at) d) (sym e) in
          elim (cases_lt k start) [
            | inl x ↦
                o ∙ get_or_append_left (first ++ new) tail d (k - at) (omega arith) ∙ get_or_append_left first new d (k - at) (omega arith)
                ∙ get_or-take (start - at) (drop at body) (k - at) d (omega arith) ∙ byte_drop at k body d l
            | inr y ↦
                elim (cases_lt k (start + count)) [
                  | inl x ↦
                      let i : k - at - (start - at) ≡ k - start = omega arith in
                      let f : inner ≡ false = with_true (is_in start count k) inner (in_yes start count k y x) p.0 in
                      o ∙ get_or_append_left (first ++ new) tail d (k - at) (omega arith) ∙ get_or-append_right first new (start - at) (k - at) d lf (omega arith)
                      ∙ ap (λ n. get_or new n d) i ∙ s.byte f d ∙ ap (λ z. get_or z (k - start) d) c ∙ get_or-take count (drop start body) (k - start) d (omega arith) ∙ byte_drop start k body d y
                  | inr z ↦
                      let i : k - at - (start - at + count) ≡ k - (start + count) = omega arith in
                      o ∙ get_or-append_right (first ++ new) tail (start - at + count) (k - at) d ll (omega arith) ∙ ap (λ n. get_or tail n d) i ∙ t.byte p.1 z d
                ]
          ];
    }

pub fronted : {B F P : Type 0} (front : List B) (r : Result (List B) F) (y : List B) → with_front front r ≡ Ok y → ((x : List B) → r ≡ Ok x → front ++ x ≡ y → P) → P
fronted front (Ok xs) y e k = let s : front ++ xs ≡ y = cc in k xs refl s
fronted front (Err fault) y e k = absurd cc

same_section : (held : Bool) (place : Place) (base address : ℕ) (body : List ℕ) (at : ℕ) (section : ListedSection) (sections : List ListedSection) (moved : List ℕ) (k : ℕ)
    → (at ≤ reached held section.start at) × Ordered (length body) (reached held (section.start + content_length section) at) sections
    → ((next : ℕ) (tail : List ℕ) → Ordered (length body) next sections → moved_from place base address body next sections ≡ Ok tail → TailAt (list_any (section_changes place body k) sections) next k body tail)
    → (if held then
    and_then (moved_content place base (address + section.start) section.kind (content_in body section))
    (λ new. with_front (take (section.start - at) (drop at body) ++ new) (moved_from place base address body (section.start + content_length section) sections))
    else moved_from place base address body at sections) ≡ Ok moved
    → TailAt ((held && is_in section.start (content_length section) k && content_changes place section.kind (content_in body section) (k - section.start)) || list_any (section_changes place body k) sections) at k body moved
same_section true place base address body at section sections moved k o more e =
    let next : ℕ = section.start + content_length section in
    through (moved_content place base (address + section.start) section.kind (content_in body section))
    (λ new. with_front (take (section.start - at) (drop at body) ++ new) (moved_from place base address body next sections)) moved e
    (λ new a b.
    fronted (take (section.start - at) (drop at body) ++ new) (moved_from place base address body next sections) moved b
    (λ tail c j.
    joined body (content_in body section) new tail moved at section.start (content_length section) k (content_changes place section.kind (content_in body section) (k - section.start))
    (list_any (section_changes place body k) sections) o.0 (ordered_end (length body) next sections o.1) refl
    (same_content place base (address + section.start) section.kind (content_in body section) new (k - section.start) a) (more next tail o.1 c) j))
same_section false place base address body at section sections moved k o more e = more at moved o.1 e

same_from : (place : Place) (base address : ℕ) (body : List ℕ) (at : ℕ) (sections : List ListedSection) (moved : List ℕ) (k : ℕ) → Ordered (length body) at sections
    → moved_from place base address body at sections ≡ Ok moved → TailAt (list_any (section_changes place body k) sections) at k body moved
unfolding moved_from Ordered section_changes
same_from place base address body at [] moved k o e = let s : drop at body ≡ moved = cc in tail_end at k body moved o s
same_from place base address body at (section ∷ sections) moved k o e =
    same_section (has_module section) place base address body at section sections moved k o (λ next tail p q. same_from place base address body next sections tail k p q) e

not_place : (k n : ℕ) → (k == n) ≡ false → (k ≡ n → ⊥)
not_place k n h e = grind (arith, nat_tests, h, e)

same_sum : (head body : List ℕ) (k : ℕ) → SameAt (has_checksum head && k == 0x11) k head (resummed_head head body)
unfolding resummed_head
same_sum head body k =
    elim (has_checksum head) as (λ b. SameAt (b && k == 0x11) k head (if b then slice_set head 0x11 (zero_byte body) else head)) [
      | true ↦ record { size = length-set head 0x11 (zero_byte body); byte = λ h d. get_or-set_other head 0x11 k (zero_byte body) d (not_place k 0x11 h) }
      | false ↦ same_self false k head head refl
    ]

none_left : (xs ys : List ℕ) → length xs ≡ length ys → length ys ≡ 0 → xs ≡ ys
none_left [] [] e z = refl
none_left [] (y ∷ ys) e z = absurd (omega (arith, z))
none_left (x ∷ xs) ys e z = absurd (omega (arith, e, z))

le_yes : (a b : ℕ) → a ≤ b → nat_le a b ≡ true
le_yes a b h = grind (arith, nat_tests)

-- a file of its header, with its checksum made anew, and its body
same_parts : (head : ℕ) (bytes body moved sum : List ℕ) (k : ℕ) (inner outer : Bool) → SameAt inner k (take head bytes) sum → length body ≡ length (drop head bytes)
    → (outer ≡ false → (d : ℕ) → get_or body (k - head) d ≡ get_or (drop head bytes) (k - head) d) → sum ++ body ≡ moved → SameAt (inner || (nat_le head k && outer)) k bytes moved
same_parts head bytes body moved sum k inner outer s lb t e =
    let front : List ℕ = take head bytes in
    let rest : List ℕ = drop head bytes in
    let whole : front ++ rest ≡ bytes = take-append-drop head bytes in
    let lw : length bytes ≡ length front + length rest = ap length (sym whole) ∙ length-append front rest in
    let lr : length rest ≡ length bytes - head = length-drop head bytes in
    let ls : length sum ≡ length front = s.size in
    let lm : length moved ≡ length sum + length body = ap length (sym e) ∙ length-append sum body in
    record {
      size = omega arith;
      byte = λ h d.
          let p = either inner (nat_le head k && outer) h in
          let o : get_or moved k d ≡ get_or (sum ++ body) k d = ap (λ z. get_or z k d) (sym e) in
          let w : get_or (front ++ rest) k d ≡ get_or bytes k d = ap (λ z. get_or z k d) whole in
          elim (cases_lt k (length sum)) [
            | inl x ↦ o ∙ get_or_append_left sum body d k x ∙ s.byte p.0 d ∙ sym (get_or_append_left front rest d k (omega arith)) ∙ w
            | inr y ↦
                let l : length front ≤ k = omega arith in
                let q : get_or moved k d ≡ get_or body (k - length front) d = o ∙ get_or-append_right sum body (length front) k d ls l in
                let r : get_or rest (k - length front) d ≡ get_or bytes k d = sym (get_or-append_right front rest (length front) k d refl l) ∙ w in
                elim (cases_eq (length front) head) [
                  | inl f ↦
                      let a : head ≤ k = omega arith in
                      let i : k - length front ≡ k - head = omega arith in
                      let m : outer ≡ false = with_true (nat_le head k) outer (le_yes head k a) p.1 in
                      q ∙ ap (λ n. get_or body n d) i ∙ t m d ∙ sym (ap (λ n. get_or rest n d) i) ∙ r
                  | inr n ↦
                      let z : length rest ≡ 0 = omega (arith, n) in q ∙ ap (λ v. get_or v (k - length front) d) (none_left body rest lb z) ∙ r
                ]
          ];
    }

same_found : (place : Place) (base address : ℕ) (bytes : List ℕ) (found : Option (List ListedSection)) (moved : List ℕ) (k : ℕ)
    → ((sections : List ListedSection) → found ≡ Some sections → Ordered (length (file_body bytes)) 0 sections) → with_found place base address bytes found ≡ Ok moved
    → SameAt ((has_checksum (file_head bytes) && k == 0x11) || (nat_le (header_len bytes) k && sections_change place (file_body bytes) (k - header_len bytes) found)) k bytes moved
same_found place base address bytes None moved k o e =
    let s : bytes ≡ moved = cc in same_self ((has_checksum (file_head bytes) && k == 0x11) || (nat_le (header_len bytes) k && false)) k bytes moved s
same_found place base address bytes (Some sections) moved k o e =
    let head : ℕ = header_len bytes in
    let outer : Bool = list_any (section_changes place (file_body bytes) (k - head)) sections in
    through (moved_from place base (address + head) (file_body bytes) 0 sections) (λ body. Ok (with_body (file_head bytes) body)) moved e
    (λ body a b.
    let s : with_body (file_head bytes) body ≡ moved = cc in
    let t : TailAt outer 0 (k - head) (file_body bytes) body = same_from place base (address + head) (file_body bytes) 0 sections body (k - head) (o sections refl) a in
    let l : length body + 0 ≡ length (file_body bytes) = t.size in
    let z : k - head ≡ k - head - 0 = omega arith in
    same_parts head bytes body moved (resummed_head (file_head bytes) body) k (has_checksum (file_head bytes) && k == 0x11) outer (same_sum (file_head bytes) body k) (omega arith)
    (λ h d. ap (λ n. get_or body n d) z ∙ t.byte h (omega arith) d) s)

pub same_file : (ffs3 : Bool) (place : Place) (base address : ℕ) (bytes moved : List ℕ) (k : ℕ) → moved_bytes ffs3 place base address bytes ≡ Ok moved
    → SameAt (file_changes ffs3 place bytes k) k bytes moved
unfolding moved_bytes moved_sections file_changes
same_file ffs3 place base address bytes moved k e =
    let found : Option (List ListedSection) = sections_of ffs3 0 (file_body bytes) in
    let inner : Bool = has_checksum (file_head bytes) && k == 0x11 in
    elim (has_sections bytes) as (λ b. (if b then with_found place base address bytes found else Ok bytes) ≡ Ok moved
    → SameAt (inner || (b && nat_le (header_len bytes) k && sections_change place (file_body bytes) (k - header_len bytes) found)) k bytes moved) [
      | true ↦ λ o. same_found place base address bytes found moved k (λ sections f. ordered_sections ffs3 (file_body bytes) sections f) o
      | false ↦ λ o. let s : bytes ≡ moved = cc in same_self (inner || false) k bytes moved s
    ] e
