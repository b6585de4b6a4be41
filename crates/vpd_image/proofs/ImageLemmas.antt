-- Entries that are written one behind another make the image.
use Rattle.std.proofs.Common.{arith, append_assoc, length-append, ◌≡◌, ℕ, ◌+◌, ◌-◌, ◌<◌, ◌≤◌, max, Bool, true, false, ◌&&◌, cond, List, [], ◌∷◌, ◌++◌, length, take, drop, map, get_or, replicate, refl, sym, ap, subst, ◌∙◌}
use Rattle.std.specs.Prelude.{filter, nat_lt, nat_le, slice_index_or}
use Rattle.std.specs.List.{AllByRecursion}
use Rattle.std.proofs.Math.Seq.{drop-append_seam, take-append_seam}
use Rattle.std.proofs.lemmas.Bool.Decides.{nat_tests}
use Rattle.std.proofs.lemmas.List.{append-nil, drop_all, length-replicate, length-take}
use Rattle.build_base.specs.Pieces.{Piece, piece_end, covers, byte_of, image_of, put_pieces}
use Rattle.build_base.proofs.Places.{places_same}
use Rattle.build_base.proofs.Steps.{head_drop}
use Rattle.build_base.proofs.PieceLemmas.{Laid, Laid-one, Laid-none, put_image}
use Rattle.vpd_image.specs.declared.places.PlacedLine.{PlacedLine}
use Rattle.vpd_image.specs.Tables.{placed_view}
use Rattle.vpd_image.specs.Orders.{Apart, Rising, apart, has_bytes, pieces_in, laid_out}
use Rattle.doc_types.specs.declared.vpd.Vpd.{Vpd}
use Rattle.vpd_image.specs.Entries.{Entry}
use Rattle.vpd_image.specs.Places.{Placed, end_of, size_of, padded, greatest_end, in_order, placed}
use Rattle.vpd_image.specs.Vpd.{entry_bytes, piece_of, image_with, place_of, read_at, vpd_from, AreReadOf}
use Rattle.vpd_image.proofs.ApartLemmas.{apart_in_order}
use Rattle.vpd_image.proofs.OrderLemmas.{rising_in_order}
use Rattle.vpd_image.proofs.ShareLemmas.{share_not}

pub length_padded : (size : ℕ) (value : List ℕ) → length (padded size value) ≡ size
unfolding padded
length_padded size value = simp (length-append, length-replicate, length-take) (grind arith)

-- an entry without bytes covers none
none_covered : (p : Placed) (i : ℕ) → has_bytes p ≡ false → covers (piece_of p) i ≡ false
none_covered p i e = covered_none p.offset (length (entry_bytes p)) i (omega (arith, length_padded (size_of p.entry.row) p.entry.row.value, size_none (size_of p.entry.row) e))
  where
    size_none : (n : ℕ) → nat_lt 0 n ≡ false → n ≡ 0
    size_none n e = grind (arith, nat_tests, e)

    covered_none : (start count i : ℕ) → count ≡ 0 → (nat_le start i && nat_lt i (start + count)) ≡ false
    covered_none start count i e = grind (arith, nat_tests, e)

bytes_kept : (ps : List Placed) (i : ℕ) → byte_of 0xFF (map piece_of ps) i ≡ byte_of 0xFF (pieces_in ps) i
unfolding byte_of
bytes_kept [] i = refl
bytes_kept (p ∷ ps) i =
    ap (λ z. cond (covers (piece_of p) i) (slice_index_or (entry_bytes p) (i - p.offset) 0xFF) z) (bytes_kept ps i) ∙ by_bytes (has_bytes p) refl
  where
    by_bytes : (b : Bool) → has_bytes p ≡ b → cond (covers (piece_of p) i) (slice_index_or (entry_bytes p) (i - p.offset) 0xFF) (byte_of 0xFF (pieces_in ps) i) ≡ byte_of 0xFF (map piece_of (cond b (p ∷ filter has_bytes ps) (filter has_bytes ps))) i
    by_bytes true e = refl
    by_bytes false e = ap (λ c. cond c (slice_index_or (entry_bytes p) (i - p.offset) 0xFF) (byte_of 0xFF (pieces_in ps) i)) (none_covered p i e)

-- entries with bytes stand behind a place
abbrev Behind : ℕ → List Placed → Type 0
Behind at ps = AllByRecursion (λ q. has_bytes q ≡ true → at ≤ q.offset) ps

some_bytes : (p : Placed) → has_bytes p ≡ true → p.offset < end_of p
unfolding end_of
some_bytes p e = some_more p.offset (size_of p.entry.row) e
  where
    some_more : (o n : ℕ) → nat_lt 0 n ≡ true → o < o + n
    some_more o n e = grind (arith, nat_tests, e)

behind_end : (p : Placed) (qs : List Placed) → has_bytes p ≡ true → AllByRecursion (apart p) qs → AllByRecursion (λ q. p.offset ≤ q.offset) qs → Behind (end_of p) qs
behind_end p [] e a r = tt
behind_end p (q ∷ qs) e a r =
    ((λ f. let own : p.offset < end_of p = some_bytes p e in let other : q.offset < end_of q = some_bytes q f in share_not p.offset (end_of p) q.offset (end_of q) (omega (arith, r.0, other)) other own a.0), behind_end p qs e a.1 r.1)

ends_within : (g : ℕ) (ps : List Placed) → greatest_end ps ≤ g → AllByRecursion (λ q. end_of q ≤ g) ps
unfolding greatest_end
ends_within g [] h = tt
ends_within g (p ∷ ps) h = (first_max (end_of p) (greatest_end ps) h, ends_within g ps (second_max (end_of p) (greatest_end ps) h))
  where
    first_max : (a b : ℕ) → max a b ≤ g → a ≤ g
    first_max a b h = grind (arith, h)

    second_max : (a b : ℕ) → max a b ≤ g → b ≤ g
    second_max a b h = grind (arith, h)

end_is : (p : Placed) → piece_end (piece_of p) ≡ end_of p
unfolding end_of
end_is p = ap (λ n. p.offset + n) (length_padded (size_of p.entry.row) p.entry.row.value)

laid_entries : (at size : ℕ) (ps : List Placed) → at ≤ size → Rising ps → Apart ps → AllByRecursion (λ q. end_of q ≤ size) ps → Behind at ps → Laid at size (pieces_in ps)
unfolding Rising Apart
laid_entries at size [] h r a e b = Laid-none at size h
laid_entries at size (p ∷ ps) h r a e b =
    by_bytes (has_bytes p) refl (laid_entries at size ps h r.1 a.1 e.1 b.1) (λ f. laid_entries (end_of p) size ps e.0 r.1 a.1 e.1 (behind_end p ps f a.0 r.0))
  where
    by_bytes : (c : Bool) → has_bytes p ≡ c → Laid at size (pieces_in ps) → (has_bytes p ≡ true → Laid (end_of p) size (pieces_in ps)) → Laid at size (map piece_of (cond c (p ∷ filter has_bytes ps) (filter has_bytes ps)))
    by_bytes false f rest more = rest
    by_bytes true f rest more = Laid-one at size (piece_of p) (pieces_in ps) (b.0 f) (subst (λ n. Laid n size (pieces_in ps)) (sym (end_is p)) (more f))

none_before : (ps : List Placed) → Behind 0 ps
none_before [] = tt
none_before (p ∷ ps) = ((λ f. omega arith), none_before ps)

laid_whole : (ps : List Placed) → Apart ps → Rising ps → Laid 0 (greatest_end ps) (pieces_in ps)
laid_whole ps a r = laid_entries 0 (greatest_end ps) ps (omega arith) r a (ends_within (greatest_end ps) ps (omega arith)) (none_before ps)

pub image_laid_out : (ps : List Placed) → Apart ps → Rising ps → laid_out ps ≡ image_with ps
unfolding laid_out image_with image_of
image_laid_out ps a r =
    put_image 0xFF (greatest_end ps) (pieces_in ps) (laid_whole ps a r)
    ∙ sym (places_same (byte_of 0xFF (map piece_of ps)) (byte_of 0xFF (pieces_in ps)) 0 (greatest_end ps) 0xFF (λ i lt. bytes_kept ps (0 + i)))

-- what is read at the places
put_front : (free : ℕ) (out : List ℕ) (pieces : List Piece) → (rest : List ℕ) × (put_pieces free out pieces ≡ out ++ rest)
unfolding put_pieces
put_front free out [] = ([], sym (append-nil out))
put_front free out (p ∷ ps) =
    let next : (rest : List ℕ) × (put_pieces free ((out ++ replicate (p.start - length out) free) ++ p.bytes) ps ≡ ((out ++ replicate (p.start - length out) free) ++ p.bytes) ++ rest) = put_front free ((out ++ replicate (p.start - length out) free) ++ p.bytes) ps in
    (replicate (p.start - length out) free ++ (p.bytes ++ next.0), next.1 ∙ simp append_assoc refl)

cut_out : (front bytes rest whole : List ℕ) (start size : ℕ) → whole ≡ front ++ (bytes ++ rest) → length front ≡ start → length bytes ≡ size → take size (drop start whole) ≡ bytes
cut_out front bytes rest whole start size is f b =
    ap (λ w. take size (drop start w)) is ∙ ap (λ n. take size (drop n (front ++ (bytes ++ rest)))) (sym f) ∙ ap (take size) (drop-append_seam front (bytes ++ rest))
    ∙ ap (λ n. take n (bytes ++ rest)) (sym b) ∙ take-append_seam bytes rest

none_padded : (n : ℕ) (value whole : List ℕ) → n ≡ 0 → take n whole ≡ padded n value
unfolding padded
none_padded n value whole e = rw e (ap (λ k. replicate k 0) (zero_less (length value)))
  where
    zero_less : (k : ℕ) → 0 ≡ 0 - k
    zero_less k = omega arith

-- an entry that has been written
cut_entry : (p : Placed) (out tail whole : List ℕ) (pieces : List Piece) → length out ≤ p.offset
    → whole ≡ put_pieces 0xFF ((out ++ replicate (p.offset - length out) 0xFF) ++ entry_bytes p) pieces ++ tail → take (size_of p.entry.row) (drop p.offset whole) ≡ entry_bytes p
cut_entry p out tail whole pieces le is =
    let front : List ℕ = out ++ replicate (p.offset - length out) 0xFF in
    let rest : (r : List ℕ) × (put_pieces 0xFF (front ++ entry_bytes p) pieces ≡ (front ++ entry_bytes p) ++ r) = put_front 0xFF (front ++ entry_bytes p) pieces in
    let whole_is : whole ≡ front ++ (entry_bytes p ++ (rest.0 ++ tail)) = is ∙ ap (λ z. z ++ tail) rest.1 ∙ append_assoc (front ++ entry_bytes p) rest.0 tail ∙ append_assoc front (entry_bytes p) (rest.0 ++ tail) in
    let long : length front ≡ p.offset = length-append out (replicate (p.offset - length out) 0xFF) ∙ ap (λ n. length out + n) (length-replicate (p.offset - length out) 0xFF) ∙ filled (length out) p.offset le in
    cut_out front (entry_bytes p) (rest.0 ++ tail) whole p.offset (size_of p.entry.row) whole_is long (length_padded (size_of p.entry.row) p.entry.row.value)
  where
    filled : (a b : ℕ) → a ≤ b → a + (b - a) ≡ b
    filled a b h = omega (arith, h)

written_end : (p : Placed) (out : List ℕ) → length out ≤ p.offset → length ((out ++ replicate (p.offset - length out) 0xFF) ++ entry_bytes p) ≡ piece_end (piece_of p)
written_end p out le =
    length-append (out ++ replicate (p.offset - length out) 0xFF) (entry_bytes p)
    ∙ ap (λ n. n + length (entry_bytes p)) (length-append out (replicate (p.offset - length out) 0xFF) ∙ ap (λ n. length out + n) (length-replicate (p.offset - length out) 0xFF) ∙ filled (length out) p.offset le)
  where
    filled : (a b : ℕ) → a ≤ b → a + (b - a) ≡ b
    filled a b h = omega (arith, h)

abbrev reads : List ℕ → Placed → List ℕ
reads whole p = take (size_of p.entry.row) (drop p.offset whole)

read_next : (p : Placed) (ps : List Placed) (out tail whole : List ℕ) (size : ℕ) (b : Bool) → has_bytes p ≡ b
    → Laid (length out) size (map piece_of (cond b (p ∷ filter has_bytes ps) (filter has_bytes ps))) → whole ≡ put_pieces 0xFF out (map piece_of (cond b (p ∷ filter has_bytes ps) (filter has_bytes ps))) ++ tail
    → ((more : List ℕ) → Laid (length more) size (pieces_in ps) → whole ≡ put_pieces 0xFF more (pieces_in ps) ++ tail → map (reads whole) ps ≡ map entry_bytes ps)
    → reads whole p ∷ map (reads whole) ps ≡ entry_bytes p ∷ map entry_bytes ps
unfolding put_pieces Laid
read_next p ps out tail whole size false e l is rest =
    ap (λ z. z ∷ map (reads whole) ps) (none_padded (size_of p.entry.row) p.entry.row.value (drop p.offset whole) (size_none (size_of p.entry.row) e)) ∙ ap (λ z. entry_bytes p ∷ z) (rest out l is)
  where
    size_none : (n : ℕ) → nat_lt 0 n ≡ false → n ≡ 0
    size_none n e = grind (arith, nat_tests, e)
read_next p ps out tail whole size true e l is rest =
    ap (λ z. z ∷ map (reads whole) ps) (cut_entry p out tail whole (pieces_in ps) l.0 is)
    ∙ ap (λ z. entry_bytes p ∷ z) (rest ((out ++ replicate (p.offset - length out) 0xFF) ++ entry_bytes p) (subst (λ n. Laid n size (pieces_in ps)) (sym (written_end p out l.0)) l.1) is)

read_entries : (ps : List Placed) (out tail whole : List ℕ) (size : ℕ) → Laid (length out) size (pieces_in ps) → whole ≡ put_pieces 0xFF out (pieces_in ps) ++ tail → map (reads whole) ps ≡ map entry_bytes ps
read_entries [] out tail whole size l is = refl
read_entries (p ∷ ps) out tail whole size l is = read_next p ps out tail whole size (has_bytes p) refl l is (λ more m i. read_entries ps more tail whole size m i)

-- what is read at the places is what the entries hold
pub all_read : (ps : List Placed) → Apart ps → Rising ps → map (read_at (image_with ps)) (map place_of ps) ≡ map entry_bytes ps
unfolding laid_out
all_read ps a r =
    mapped (image_with ps) ps
    ∙ read_entries ps [] (replicate (greatest_end ps - length (put_pieces 0xFF [] (pieces_in ps))) 0xFF) (image_with ps) (greatest_end ps) (laid_whole ps a r) (sym (image_laid_out ps a r))
  where
    mapped : (image : List ℕ) (ps : List Placed) → map (read_at image) (map place_of ps) ≡ map (reads image) ps
    mapped image [] = refl
    mapped image (p ∷ ps) = ap (λ z. reads image p ∷ z) (mapped image ps)

-- one entry more is written
pub put_next : (out next : List ℕ) (all : List PlacedLine) (i : ℕ) (x : PlacedLine) → i < length all → x ≡ get_or all i x → next ≡ put_pieces 0xFF out (pieces_in (placed_view x ∷ []))
    → put_pieces 0xFF next (pieces_in (map placed_view (drop (i + 1) all))) ≡ put_pieces 0xFF out (pieces_in (map placed_view (drop i all)))
unfolding put_pieces
put_next out next all i x h e is =
    let more : List Placed = map placed_view (drop (i + 1) all) in
    ap (λ o. put_pieces 0xFF o (pieces_in more)) is ∙ by_bytes (placed_view x) more (has_bytes (placed_view x))
    ∙ ap (λ z. put_pieces 0xFF out (pieces_in (map placed_view z))) (sym (head_drop all i x h e))
  where
    by_bytes : (p : Placed) (more : List Placed) (b : Bool) → put_pieces 0xFF (put_pieces 0xFF out (map piece_of (cond b (p ∷ []) []))) (pieces_in more) ≡ put_pieces 0xFF out (map piece_of (cond b (p ∷ filter has_bytes more) (filter has_bytes more)))
    by_bytes p more true = refl
    by_bytes p more false = refl

pub put_none : (out : List ℕ) (all : List PlacedLine) (i : ℕ) → length all ≤ i → out ≡ put_pieces 0xFF out (pieces_in (map placed_view (drop i all)))
unfolding put_pieces
put_none out all i h = ap (λ z. put_pieces 0xFF out (pieces_in (map placed_view z))) (sym (drop_all i all h))

pub made_read : (entries : List Entry) (vpd : Vpd) (ps : List Placed) → placed entries ≡ ps → Apart ps → vpd ≡ vpd_from (in_order ps) → AreReadOf entries vpd
unfolding vpd_from
made_read entries vpd ps is a e =
    ap (λ v. map (read_at v.image) v.places) e ∙ all_read (in_order ps) (apart_in_order ps a) (rising_in_order ps) ∙ ap (λ z. map entry_bytes (in_order z)) (sym is)
