-- An image that is written piece by piece.
use Rattle.std.proofs.Common.{◌≡◌, ℕ, ◌+◌, ◌-◌, ◌<◌, ◌≤◌, true, false, List, [], ◌∷◌, ◌++◌, length, map, get_or, replicate, refl, ap, sym, ◌∙◌, arith, append_assoc, append-nil, length-append}
use Rattle.std.specs.List.{range_with_len}
use Rattle.std.proofs.lemmas.List.{length-replicate}
use Rattle.std.proofs.lemmas.Bool.Decides.{nat_tests}
use Rattle.build_base.proofs.Places.{places_of, places_same, places_one, places_join}
use Rattle.build_base.specs.Pieces.{Piece, piece_end, covers, byte_of, image_of, put_pieces}

-- pieces in order from a place on, within a size
unfoldable pub Laid : ℕ → ℕ → List Piece → Type 0
Laid at size [] = at ≤ size
Laid at size (piece ∷ pieces) = (at ≤ piece.start) × Laid (piece_end piece) size pieces

pub laid_size : (at size : ℕ) (pieces : List Piece) → Laid at size pieces → at ≤ size
unfolding Laid
laid_size at size [] l = l
laid_size at size (p ∷ ps) l = let m : piece_end p ≤ size = laid_size (piece_end p) size ps l.1 in omega (arith, l.0)

not_covered : (p : Piece) (i : ℕ) → i < p.start → covers p i ≡ false
not_covered p i h = grind (arith, nat_tests)

not_covered_after : (p : Piece) (i : ℕ) → piece_end p ≤ i → covers p i ≡ false
not_covered_after p i h = grind (arith, nat_tests)

covered : (p : Piece) (i : ℕ) → p.start ≤ i → i < piece_end p → covers p i ≡ true
covered p i h l = grind (arith, nat_tests)

byte_free : (free at size : ℕ) (ps : List Piece) (i : ℕ) → Laid at size ps → i < at → byte_of free ps i ≡ free
unfolding Laid byte_of
byte_free free at size [] i l lt = refl
byte_free free at size (p ∷ ps) i l lt =
    let a : at ≤ p.start = l.0 in
    rw (not_covered p i (omega arith)) (byte_free free (piece_end p) size ps i l.1 (omega arith))

byte_gap : (free at size : ℕ) (p : Piece) (ps : List Piece) (i : ℕ) → Laid at size (p ∷ ps) → i < p.start → byte_of free (p ∷ ps) i ≡ free
unfolding Laid byte_of
byte_gap free at size p ps i l lt = rw (not_covered p i lt) (byte_free free (piece_end p) size ps i l.1 (omega arith))

byte_own : (free : ℕ) (p : Piece) (ps : List Piece) (i : ℕ) → i < length p.bytes → get_or p.bytes i free ≡ byte_of free (p ∷ ps) (p.start + i)
unfolding byte_of
byte_own free p ps i lt =
    let e : p.start + i - p.start ≡ i = omega arith in
    rw (covered p (p.start + i) (omega arith) (omega arith), e) refl

byte_later : (free : ℕ) (p : Piece) (ps : List Piece) (i : ℕ) → byte_of free (p ∷ ps) (piece_end p + i) ≡ byte_of free ps (piece_end p + i)
unfolding byte_of
byte_later free p ps i = rw (not_covered_after p (piece_end p + i) (omega arith)) refl

-- the places from a on in three parts
places_three : {X : Type 0} (f : ℕ → X) (a n b m c j t : ℕ) → a + n ≡ b → b + m ≡ c → n + (m + j) ≡ t
    → map f (range_with_len a t) ≡ map f (range_with_len a n) ++ (map f (range_with_len b m) ++ map f (range_with_len c j))
places_three f a n b m c j t e g w =
    let mid : map f (range_with_len b (m + j)) ≡ map f (range_with_len b m) ++ map f (range_with_len c j) = places_join f b m c j (m + j) g refl in
    let all : map f (range_with_len a t) ≡ map f (range_with_len a n) ++ map f (range_with_len b (m + j)) = places_join f a n b (m + j) t e w in
    cc

-- what stands so far and the places of the pieces that are left are the whole
pub record Rest (whole out : List ℕ) (free size : ℕ) (pieces : List Piece) : Type 0 where
  pub laid : Laid (length out) size pieces
  pub remains : whole ≡ out ++ map (byte_of free pieces) (range_with_len (length out) (size - length out))

pub rest_start : (free size : ℕ) (pieces : List Piece) → Laid 0 size pieces → Rest (image_of free pieces size) [] free size pieces
unfolding image_of
rest_start free size pieces l =
    let z : size - 0 ≡ size = omega arith in record { laid = l; remains = rw z refl }

pub rest_put : (whole out next : List ℕ) (free size : ℕ) (p : Piece) (ps : List Piece) → Rest whole out free size (p ∷ ps) → next ≡ (out ++ replicate (p.start - length out) free) ++ p.bytes → Rest whole next free size ps
unfolding Laid
rest_put whole out next free size p ps s e =
    let n : ℕ = length out in
    let m : ℕ = piece_end p in
    let f : ℕ → ℕ = byte_of free (p ∷ ps) in
    let g : ℕ → ℕ = byte_of free ps in
    let start : n ≤ p.start = s.laid.0 in
    let inside : m ≤ size = laid_size m size ps s.laid.1 in
    let l : length next ≡ m = ap length e ∙ simp (length-append, length-replicate) (omega arith) in
    let gap : replicate (p.start - n) free ≡ map f (range_with_len n (p.start - n)) = places_one f n (p.start - n) free (λ i lt. byte_gap free n size p ps (n + i) s.laid (omega arith)) in
    let own : p.bytes ≡ map f (range_with_len p.start (length p.bytes)) = places_of f p.start (length p.bytes) free p.bytes refl (λ i lt. byte_own free p ps i lt) in
    let later : map f (range_with_len m (size - m)) ≡ map g (range_with_len m (size - m)) = places_same f g m (size - m) free (λ i lt. byte_later free p ps i) in
    let split : map f (range_with_len n (size - n)) ≡ map f (range_with_len n (p.start - n)) ++ (map f (range_with_len p.start (length p.bytes)) ++ map f (range_with_len m (size - m))) =
    places_three f n (p.start - n) p.start (length p.bytes) m (size - m) (size - n) (omega arith) refl (omega arith) in
    let group : out ++ (replicate (p.start - n) free ++ (p.bytes ++ map g (range_with_len m (size - m)))) ≡ ((out ++ replicate (p.start - n) free) ++ p.bytes) ++ map g (range_with_len m (size - m)) = simp append_assoc in
    let whole_is : whole ≡ ((out ++ replicate (p.start - n) free) ++ p.bytes) ++ map g (range_with_len m (size - m)) = s.remains ∙ cc in
    record { laid = rw l s.laid.1; remains = rw (l, e) whole_is }

pub rest_end : (whole out : List ℕ) (free size : ℕ) → Rest whole out free size [] → whole ≡ out ++ replicate (size - length out) free
unfolding byte_of
rest_end whole out free size s =
    s.remains ∙ ap (λ z. out ++ z) (sym (places_one (byte_of free []) (length out) (size - length out) free (λ k lt. refl)))

pub rest_put_all : (whole out next : List ℕ) (free size : ℕ) (ps qs : List Piece) → Rest whole out free size (ps ++ qs) → next ≡ put_pieces free out ps → Rest whole next free size qs
unfolding put_pieces
rest_put_all whole out next free size [] qs s e = rw e s
rest_put_all whole out next free size (p ∷ ps) qs s e =
    rest_put_all whole ((out ++ replicate (p.start - length out) free) ++ p.bytes) next free size ps qs (rest_put whole out ((out ++ replicate (p.start - length out) free) ++ p.bytes) free size p (ps ++ qs) s refl) e

pub put_pieces-append : (free : ℕ) (out : List ℕ) (ps qs : List Piece) → put_pieces free out (ps ++ qs) ≡ put_pieces free (put_pieces free out ps) qs
unfolding put_pieces
put_pieces-append free out [] qs = refl
put_pieces-append free out (p ∷ ps) qs = put_pieces-append free ((out ++ replicate (p.start - length out) free) ++ p.bytes) ps qs

pub length_put : (free : ℕ) (out : List ℕ) (p : Piece) → length out ≤ p.start → length (put_pieces free out (p ∷ [])) ≡ piece_end p
unfolding put_pieces
length_put free out p h = simp (length-append, length-replicate) (omega arith)

pub put_two : (free : ℕ) (out : List ℕ) (p q : Piece) → put_pieces free out (p ∷ q ∷ []) ≡ put_pieces free (put_pieces free out (p ∷ [])) (q ∷ [])
unfolding put_pieces
put_two free out p q = refl

-- pieces laid one after another are the image
pub put_image : (free size : ℕ) (pieces : List Piece) → Laid 0 size pieces → put_pieces free [] pieces ++ replicate (size - length (put_pieces free [] pieces)) free ≡ image_of free pieces size
put_image free size pieces l =
    let start : Rest (image_of free pieces size) [] free size (pieces ++ []) = rw append-nil (rest_start free size pieces l) in
    sym (rest_end (image_of free pieces size) (put_pieces free [] pieces) free size (rest_put_all (image_of free pieces size) [] (put_pieces free [] pieces) free size pieces [] start refl))

pub Laid-one : (at size : ℕ) (p : Piece) (ps : List Piece) → at ≤ p.start → Laid (piece_end p) size ps → Laid at size (p ∷ ps)
unfolding Laid
Laid-one at size p ps h l = (h, l)

pub Laid-none : (at size : ℕ) → at ≤ size → Laid at size []
unfolding Laid
Laid-none at size h = h
