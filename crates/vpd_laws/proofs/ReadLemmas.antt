-- What is read at the places of entries that fit.
use Rattle.std.proofs.Common.{◌≡◌, ℕ, ◌+◌, ◌-◌, ◌≤◌, max, Bool, true, false, cond, if◌then◌else◌, List, [], ◌∷◌, ◌++◌, length, map, find, take, drop, replicate, All, Option, Some, None, Result, Ok, Err, refl, ap, sym, ◌∙◌, arith, subst, append_assoc, append-nil, drop-drop}
use Rattle.std.proofs.Math.Seq.{drop-append_seam, take-append_seam}
use Rattle.std.proofs.lemmas.List.{take_all, take-take, drop-take}
use Rattle.std.proofs.lemmas.List.FromFn.{length-map-range_with_len}
use Rattle.std.proofs.lemmas.List.Elements.{All-nil, All-cons, All-head, All-tail, All-append}
use Rattle.std.specs.List.{list_any}
use Rattle.std.specs.Prelude.{nat_le}
use Rattle.build_base.specs.declared.fault.Fault.{Fault}
use Rattle.build_base.specs.First.{and_then, or_fault}
use Rattle.build_base.specs.Pieces.{byte_of, image_of}
use Rattle.doc_types.specs.declared.arch.Arch.{Arch}
use Rattle.doc_types.specs.declared.platform.PcdLine.{PcdLine}
use Rattle.doc_types.specs.declared.values.PcdRow.{PcdRow}
use Rattle.doc_types.specs.declared.vpd.Vpd.{Vpd}
use Rattle.vpd_image.specs.declared.ask.VpdAsk.{VpdAsk}
use Rattle.vpd_image.specs.Entries.{Entry, counts, line_label, is_row_of, is_line_of, row_left, with_row, entry_in, entries}
use Rattle.vpd_image.specs.Orders.{Apart}
use Rattle.vpd_image.specs.Places.{Placed, size_of, end_of, padded, greatest_end, written_entries, placed_next, placed_from, placed, placed_by, overlap_fault, long_fault, all_ended, put_in_order, in_order}
use Rattle.vpd_image.specs.Vpd.{entry_bytes, piece_of, image_with, place_of, read_at, vpd_from, vpd_by, entries_of, vpd_of}
use Rattle.vpd_image.proofs.ApartLemmas.{apart_placed, apart_in_order, placed_is}
use Rattle.vpd_image.proofs.OrderLemmas.{rising_in_order}
use Rattle.vpd_image.proofs.ImageLemmas.{all_read}
use Rattle.vpd_laws.specs.Sized.{IsSized, IsReadAt, IsRead}

-- All entries are placed, in their order.

map_both : (xs ys : List Placed) → map (λ p. p.entry) (xs ++ ys) ≡ map (λ p. p.entry) xs ++ map (λ p. p.entry) ys
map_both [] ys = refl
map_both (x ∷ xs) ys = ap (λ z. x.entry ∷ z) (map_both xs ys)

entries_from : (fixed above : List Placed) (all : List Entry) → map (λ p. p.entry) (placed_from fixed above all) ≡ map (λ p. p.entry) above ++ all
unfolding placed_from placed_next
entries_from fixed above [] = sym (append-nil (map (λ p. p.entry) above))
entries_from fixed above (entry ∷ all) =
    let next : Placed = placed_next fixed above entry in
    entries_from fixed (above ++ next ∷ []) all ∙ ap (λ z. z ++ all) (map_both above (next ∷ [])) ∙ append_assoc (map (λ p. p.entry) above) (entry ∷ []) all

pub entries_placed : (all : List Entry) → map (λ p. p.entry) (placed all) ≡ all
unfolding placed
entries_placed all = entries_from (written_entries all) [] all

all_of_map : (P : Entry → Type 0) (ps : List Placed) → All P (map (λ p. p.entry) ps) → All (λ p. P p.entry) ps
all_of_map P [] a = All-nil (λ p. P p.entry)
all_of_map P (p ∷ ps) a =
    All-cons (λ p. P p.entry) p ps (All-head P p.entry (map (λ p. p.entry) ps) a) (all_of_map P ps (All-tail P p.entry (map (λ p. p.entry) ps) a))

-- what all entries have, all have in the order of their offsets, and the other way round

put_all : (P : Placed → Type 0) (b : Bool) (p q : Placed) (qs : List Placed) → All P (cond b (p ∷ q ∷ qs) (q ∷ put_in_order p qs)) → (All P (put_in_order p qs) → P p × All P qs) → P p × All P (q ∷ qs)
put_all P true p q qs a more = (All-head P p (q ∷ qs) a, All-tail P p (q ∷ qs) a)
put_all P false p q qs a more =
    let r = more (All-tail P q (put_in_order p qs) a) in (r.0, All-cons P q qs (All-head P q (put_in_order p qs) a) r.1)

all_put : (P : Placed → Type 0) (p : Placed) (qs : List Placed) → All P (put_in_order p qs) → P p × All P qs
unfolding put_in_order
all_put P p [] a = (All-head P p [] a, All-nil P)
all_put P p (q ∷ qs) a = put_all P (nat_le p.offset q.offset) p q qs a (all_put P p qs)

all_sorted : (P : Placed → Type 0) (ps : List Placed) → All P (in_order ps) → All P ps
unfolding in_order
all_sorted P [] a = All-nil P
all_sorted P (p ∷ ps) a = let r = all_put P p (in_order ps) a in All-cons P p ps r.0 (all_sorted P ps r.1)

put_back : (P : Placed → Type 0) (b : Bool) (p q : Placed) (qs : List Placed) → P p → All P (q ∷ qs) → All P (put_in_order p qs) → All P (cond b (p ∷ q ∷ qs) (q ∷ put_in_order p qs))
put_back P true p q qs h a more = All-cons P p (q ∷ qs) h a
put_back P false p q qs h a more = All-cons P q (put_in_order p qs) (All-head P q qs a) more

put_kept : (P : Placed → Type 0) (p : Placed) (qs : List Placed) → P p → All P qs → All P (put_in_order p qs)
unfolding put_in_order
put_kept P p [] h a = All-cons P p [] h a
put_kept P p (q ∷ qs) h a = put_back P (nat_le p.offset q.offset) p q qs h a (put_kept P p qs h (All-tail P q qs a))

sorted_kept : (P : Placed → Type 0) (ps : List Placed) → All P ps → All P (in_order ps)
unfolding in_order
sorted_kept P [] a = All-nil P
sorted_kept P (p ∷ ps) a = put_kept P p (in_order ps) (All-head P p ps a) (sorted_kept P ps (All-tail P p ps a))

-- The rows of entries are rows of the platform.

abbrev HasSized : Entry → Type 0
HasSized entry = IsSized entry.row

row_found : (name : List ℕ) (rows : List PcdRow) (row : PcdRow) → All IsSized rows → find (is_row_of name) rows ≡ Some row → IsSized row
row_found name [] row a e = absurd cc
row_found name (first ∷ rows) row a e =
    elim (is_row_of name first) as (λ b. cond b (Some first) (find (is_row_of name) rows) ≡ Some row → IsSized row) [
      | true ↦ λ o. let s : first ≡ row = cc in subst IsSized s (All-head IsSized first rows a)
      | false ↦ λ o. row_found name rows row (All-tail IsSized first rows a) o
    ] e

row_given : (line : PcdLine) (found : Option PcdRow) → ((row : PcdRow) → found ≡ Some row → IsSized row) → All HasSized (with_row line found)
row_given line None h = All-nil HasSized
row_given line (Some row) h = All-cons HasSized (record { line = line; row = row }) [] (h row refl) (All-nil HasSized)

left_sized : (b : Bool) (name : List ℕ) (rows : List PcdRow) (row : PcdRow) → All IsSized rows → (if b then None else find (is_row_of name) rows) ≡ Some row → IsSized row
left_sized true name rows row a e = absurd cc
left_sized false name rows row a e = row_found name rows row a e

line_sized : (arches : List Arch) (rows : List PcdRow) (below : List PcdLine) (line : PcdLine) → All IsSized rows → All HasSized (entry_in arches rows below line)
unfolding entry_in
line_sized arches rows below line a =
    elim (counts arches line) as (λ b. All HasSized (if b then with_row line (row_left arches rows below (line_label line)) else [])) [
      | true ↦ row_given line (row_left arches rows below (line_label line))
          (λ row e. left_sized (list_any (is_line_of arches (line_label line)) below) (line_label line) rows row a e)
      | false ↦ All-nil HasSized
    ]

entries_sized : (arches : List Arch) (rows : List PcdRow) (lines : List PcdLine) → All IsSized rows → All HasSized (entries arches rows lines)
unfolding entries
entries_sized arches rows [] a = All-nil HasSized
entries_sized arches rows (line ∷ below) a =
    All-append HasSized (entry_in arches rows below line) (entries arches rows below) (line_sized arches rows below line a) (entries_sized arches rows below a)

-- What is read where a value fits.

abbrev Reads : List ℕ → Placed → Type 0
Reads image p = read_at image (place_of p) ≡ entry_bytes p

reads_all : (image : List ℕ) (ps : List Placed) → map (read_at image) (map place_of ps) ≡ map entry_bytes ps → All (Reads image) ps
reads_all image [] e = All-nil (Reads image)
reads_all image (p ∷ ps) e =
    let head : Reads image p = cc in
    let tail : map (read_at image) (map place_of ps) ≡ map entry_bytes ps = cc in All-cons (Reads image) p ps head (reads_all image ps tail)

padded_is : (size : ℕ) (value : List ℕ) → length value ≤ size → padded size value ≡ value ++ replicate (size - length value) 0
unfolding padded
padded_is size value h = ap (λ z. z ++ replicate (size - length value) 0) (take_all size value h)

place_read : (image : List ℕ) (p : Placed) → IsSized p.entry.row → end_of p ≤ length image → Reads image p → IsReadAt image p
place_read image p s i e =
    let value : List ℕ = p.entry.row.value in
    let size : ℕ = size_of p.entry.row in
    let count : ℕ = length value in
    let zeros : List ℕ = replicate (size - count) 0 in
    let fits : count ≤ size = s.fits in
    let there : take size (drop p.offset image) ≡ value ++ zeros = e ∙ padded_is size value fits in
    let k : count + (size - count) ≡ size = omega arith in
    record {
      inside = i;
      value = sym (take-take count size (drop p.offset image) fits) ∙ ap (take count) there ∙ take-append_seam value zeros;
      zeros =
          ap (take (size - count)) (ap (λ n. drop n image) (omega arith) ∙ sym (drop-drop count p.offset image))
          ∙ sym (drop-take count (size - count) (drop p.offset image)) ∙ ap (λ n. drop count (take n (drop p.offset image))) k ∙ ap (drop count) there ∙ drop-append_seam value zeros;
    }

ends_before : (most : ℕ) (ps : List Placed) → greatest_end ps ≤ most → All (λ p. end_of p ≤ most) ps
unfolding greatest_end
ends_before most [] h = All-nil (λ p. end_of p ≤ most)
ends_before most (p ∷ ps) h =
    All-cons (λ p. end_of p ≤ most) p ps (first_max (end_of p) (greatest_end ps) h) (ends_before most ps (second_max (end_of p) (greatest_end ps) h))
  where
    first_max : (a b : ℕ) → max a b ≤ most → a ≤ most
    first_max a b h = grind (arith, h)

    second_max : (a b : ℕ) → max a b ≤ most → b ≤ most
    second_max a b h = grind (arith, h)

image_long : (ps : List Placed) → length (image_with ps) ≡ greatest_end ps
unfolding image_with image_of
image_long ps = length-map-range_with_len (byte_of 0xFF (map piece_of ps)) 0 (greatest_end ps)

all_places : (image : List ℕ) (ps : List Placed) → All (λ p. IsSized p.entry.row) ps → All (λ p. end_of p ≤ length image) ps → All (Reads image) ps → All (IsReadAt image) ps
all_places image [] s i r = All-nil (IsReadAt image)
all_places image (p ∷ ps) s i r =
    All-cons (IsReadAt image) p ps (place_read image p (All-head (λ p. IsSized p.entry.row) p ps s) (All-head (λ p. end_of p ≤ length image) p ps i) (All-head (Reads image) p ps r))
    (all_places image ps (All-tail (λ p. IsSized p.entry.row) p ps s) (All-tail (λ p. end_of p ≤ length image) p ps i) (All-tail (Reads image) p ps r))

-- The image of entries that are placed.

fault_first : {T F : Type 0} (fault : Option F) (outcome : Result T F) (x : T) → or_fault fault outcome ≡ Ok x → fault ≡ None
fault_first None outcome x e = refl
fault_first (Some f) outcome x e = absurd cc

placed_apart : (all : List Entry) (ps : List Placed) → placed_by all ≡ Ok ps → Apart ps
unfolding placed_by
placed_apart all ps e =
    let n : overlap_fault [] (written_entries all) ≡ None = fault_first (overlap_fault [] (written_entries all)) (or_fault (long_fault (written_entries all)) (all_ended (placed all))) ps e in
    subst Apart (placed_is all ps e) (apart_placed all n)

made_read : (all : List Entry) (ps : List Placed) → All HasSized all → placed_by all ≡ Ok ps → All (IsReadAt (image_with (in_order ps))) ps
made_read all ps s e =
    let sorted : List Placed = in_order ps in
    let image : List ℕ = image_with sorted in
    let has : All (λ p. IsSized p.entry.row) (placed all) = all_of_map HasSized (placed all) (subst (All HasSized) (sym (entries_placed all)) s) in
    let sized : All (λ p. IsSized p.entry.row) sorted = sorted_kept (λ p. IsSized p.entry.row) ps (subst (All (λ p. IsSized p.entry.row)) (placed_is all ps e) has) in
    let l : length image ≡ greatest_end sorted = image_long sorted in
    let ends : All (λ p. end_of p ≤ length image) sorted = ends_before (length image) sorted (omega arith) in
    let reads : All (Reads image) sorted = reads_all image sorted (all_read sorted (apart_in_order ps (placed_apart all ps e)) (rising_in_order ps)) in
    all_sorted (IsReadAt image) ps (all_places image sorted sized ends reads)

entries_read : (ask : VpdAsk) (vpd : Vpd) (found : Result (List Placed) Fault) → All HasSized (entries_of ask) → placed_by (entries_of ask) ≡ found
    → and_then found (λ ps. Ok (vpd_from (in_order ps))) ≡ Ok vpd → IsRead ask vpd
unfolding vpd_from
entries_read ask vpd (Ok ps) s f e =
    let all : List Entry = entries_of ask in
    let v : vpd_from (in_order ps) ≡ vpd = cc in
    let is : placed all ≡ ps = placed_is all ps f in
    record {
      places = ap (λ z. z.places) (sym v) ∙ ap (λ z. map place_of (in_order z)) (sym is);
      read = subst (λ z. All (IsReadAt z.image) (placed all)) v (subst (All (IsReadAt (image_with (in_order ps)))) (sym is) (made_read all ps s f));
    }
entries_read ask vpd (Err fault) s f e = absurd cc

pub values_read : (ask : VpdAsk) (vpd : Vpd) → All IsSized ask.values.rows → vpd_of ask ≡ Ok vpd → IsRead ask vpd
unfolding vpd_of vpd_by entries_of
values_read ask vpd s e =
    entries_read ask vpd (placed_by (entries_of ask)) (entries_sized ask.arches ask.values.rows ask.platform.pcds s) refl e
