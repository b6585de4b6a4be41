-- The files of a volume, met one after another.
use Rattle.std.proofs.Common.{◌≡◌, ℕ, zero, suc, ◌+◌, ◌-◌, ◌<◌, ◌≤◌, ◌==◌, Bool, true, false, List, [], ◌∷◌, ◌++◌, length, drop, replicate, Ok, refl, ap, sym, ◌∙◌, arith, append_assoc, length-append, drop-drop, eq-eqb}
use Rattle.std.proofs.lemmas.List.{length-replicate, drop-replicate}
use Rattle.std.proofs.Math.Seq.{drop-append_seam}
use Rattle.build_base.specs.Runs.{free_byte}
use Rattle.build_base.specs.Pieces.{Piece, piece_end, image_of}
use Rattle.build_base.proofs.PieceLemmas.{Laid, Laid-one, Laid-none, Rest, rest_start, rest_put, rest_end}
use Rattle.fv_compose.specs.Place.{align_up}
use Rattle.fv_compose.proofs.PlaceLemmas.{up_after}
use Rattle.volume_reader.specs.declared.listed.Listed.{Listed}
use Rattle.volume_reader.specs.Files.{is_file, stated_size, listed_file}
use Rattle.volume_reader.specs.Volume.{with_files, are_erased, held_from}

-- These bytes are a file, whatever stands behind them, and at this place it is listed by this row.
pub record IsRow (ffs3 : Bool) (erase place : ℕ) (bytes : List ℕ) (row : Listed) : Type 0 where
  pub some : 24 ≤ length bytes
  pub file : (rest : List ℕ) → is_file ffs3 erase (bytes ++ rest) ≡ true
  pub size : (rest : List ℕ) → stated_size (bytes ++ rest) ≡ length bytes
  pub used : (rest : List ℕ) → are_erased erase (bytes ++ rest) ≡ false
  pub listed : (rest : List ℕ) → listed_file ffs3 place (bytes ++ rest) ≡ row

-- Each piece from an end on is a file that stands at the next multiple of 8, and the last one ends here, within the volume.
unfoldable pub Chain : Bool → ℕ → ℕ → ℕ → ℕ → List Piece → List Listed → Type 0
Chain ffs3 erase size last at [] [] = (at ≡ last) × (at ≤ size)
Chain ffs3 erase size last at [] (row ∷ rows) = ⊥
Chain ffs3 erase size last at (piece ∷ pieces) [] = ⊥
Chain ffs3 erase size last at (piece ∷ pieces) (row ∷ rows) =
    (piece.start ≡ align_up 8 at) × IsRow ffs3 erase piece.start piece.bytes row × Chain ffs3 erase size last (piece_end piece) pieces rows

pub chain_none : (ffs3 : Bool) (erase size last at : ℕ) → at ≡ last → at ≤ size → Chain ffs3 erase size last at [] []
unfolding Chain
chain_none ffs3 erase size last at e h = (e, h)

pub chain_one : (ffs3 : Bool) (erase size last at : ℕ) (p : Piece) (ps : List Piece) (r : Listed) (rs : List Listed) → p.start ≡ align_up 8 at → IsRow ffs3 erase p.start p.bytes r
    → Chain ffs3 erase size last (piece_end p) ps rs → Chain ffs3 erase size last at (p ∷ ps) (r ∷ rs)
unfolding Chain
chain_one ffs3 erase size last at p ps r rs e h c = (e, h, c)

pub chain_laid : (ffs3 : Bool) (erase size last at : ℕ) (ps : List Piece) (rs : List Listed) → Chain ffs3 erase size last at ps rs → Laid at size ps
unfolding Chain
chain_laid ffs3 erase size last at [] [] c = Laid-none at size c.1
chain_laid ffs3 erase size last at [] (r ∷ rs) c = absurd c
chain_laid ffs3 erase size last at (p ∷ ps) [] c = absurd c
chain_laid ffs3 erase size last at (p ∷ ps) (r ∷ rs) c =
    let u : at ≤ align_up 8 at = up_after 8 at (omega arith) in
    let s : p.start ≡ align_up 8 at = c.0 in
    Laid-one at size p ps (omega arith) (chain_laid ffs3 erase size last (piece_end p) ps rs c.2)

pub chain_within : (ffs3 : Bool) (erase size last at : ℕ) (ps : List Piece) (rs : List Listed) → Chain ffs3 erase size last at ps rs → at ≤ size
unfolding Chain
chain_within ffs3 erase size last at [] [] c = c.1
chain_within ffs3 erase size last at [] (r ∷ rs) c = absurd c
chain_within ffs3 erase size last at (p ∷ ps) [] c = absurd c
chain_within ffs3 erase size last at (p ∷ ps) (r ∷ rs) c =
    let u : at ≤ align_up 8 at = up_after 8 at (omega arith) in
    let s : p.start ≡ align_up 8 at = c.0 in
    let m : piece_end p ≤ size = chain_within ffs3 erase size last (piece_end p) ps rs c.2 in omega arith

-- what an image has from an end on: each piece at its place, and erased bytes before it and behind the last one
unfoldable pub tail : ℕ → ℕ → ℕ → List Piece → List ℕ
tail free size at [] = replicate (size - at) free
tail free size at (piece ∷ pieces) = replicate (piece.start - at) free ++ (piece.bytes ++ tail free size (piece_end piece) pieces)

head_low : (out : List ℕ) (size : ℕ) (p : Piece) (ps : List Piece) → Laid (length out) size (p ∷ ps) → length out ≤ p.start
unfolding Laid
head_low out size p ps l = l.0

rest_tail : (whole out : List ℕ) (free size : ℕ) (ps : List Piece) → Rest whole out free size ps → whole ≡ out ++ tail free size (length out) ps
unfolding tail
rest_tail whole out free size [] s = rest_end whole out free size s
rest_tail whole out free size (p ∷ ps) s =
    let low : length out ≤ p.start = head_low out size p ps s.laid in
    let next : List ℕ = (out ++ replicate (p.start - length out) free) ++ p.bytes in
    let l : length next ≡ piece_end p = simp (length-append, length-replicate) (omega arith) in
    let ih : whole ≡ next ++ tail free size (length next) ps = rest_tail whole next free size ps (rest_put whole out next free size p ps s refl) in
    let t : List ℕ = tail free size (piece_end p) ps in
    ih ∙ ap (λ k. next ++ tail free size k ps) l ∙ append_assoc (out ++ replicate (p.start - length out) free) p.bytes t
    ∙ append_assoc out (replicate (p.start - length out) free) (p.bytes ++ t)

pub image_tail : (free size : ℕ) (ps : List Piece) → Laid 0 size ps → image_of free ps size ≡ tail free size 0 ps
image_tail free size ps l = rest_tail (image_of free ps size) [] free size ps (rest_start free size ps l)

gap_drop : (free n : ℕ) (xs : List ℕ) → drop n (replicate n free ++ xs) ≡ xs
gap_drop free n xs = ap (λ k. drop k (replicate n free ++ xs)) (sym (length-replicate n free)) ∙ drop-append_seam (replicate n free) xs

up_drop : (at : ℕ) (volume : List ℕ) → drop (align_up 8 at) volume ≡ drop (align_up 8 at - at) (drop at volume)
up_drop at volume =
    let u : at ≤ align_up 8 at = up_after 8 at (omega arith) in
    let e : align_up 8 at ≡ at + (align_up 8 at - at) = omega arith in
    ap (λ k. drop k volume) e ∙ sym (drop-drop (align_up 8 at - at) at volume)

-- where a piece stands the volume goes on with its bytes
at_piece : (free size at : ℕ) (volume : List ℕ) (p : Piece) (ps : List Piece) → drop at volume ≡ tail free size at (p ∷ ps) → p.start ≡ align_up 8 at → drop (align_up 8 at) volume ≡ p.bytes ++ tail free size (piece_end p) ps
unfolding tail
at_piece free size at volume p ps d s =
    let t : List ℕ = p.bytes ++ tail free size (piece_end p) ps in
    up_drop at volume ∙ ap (drop (align_up 8 at - at)) d ∙ ap (λ k. drop (align_up 8 at - at) (replicate (k - at) free ++ t)) s ∙ gap_drop free (align_up 8 at - at) t

after_piece : (free size at : ℕ) (volume : List ℕ) (p : Piece) (ps : List Piece) → drop (align_up 8 at) volume ≡ p.bytes ++ tail free size (piece_end p) ps → p.start ≡ align_up 8 at
    → drop (piece_end p) volume ≡ tail free size (piece_end p) ps
after_piece free size at volume p ps d s =
    let t : List ℕ = tail free size (piece_end p) ps in
    sym (drop-drop (length p.bytes) p.start volume) ∙ ap (λ k. drop (length p.bytes) (drop k volume)) s ∙ ap (drop (length p.bytes)) d ∙ drop-append_seam p.bytes t

erased_all : (erase n : ℕ) → are_erased erase (replicate n (free_byte erase)) ≡ true
unfolding are_erased
erased_all erase zero = refl
erased_all erase (suc n) =
    let same : (free_byte erase == free_byte erase) ≡ true = eq-eqb (free_byte erase) (free_byte erase) refl in
    rw same (erased_all erase n)

erased_end : (erase size at : ℕ) (volume : List ℕ) → drop at volume ≡ tail (free_byte erase) size at [] → are_erased erase (drop (align_up 8 at) volume) ≡ true
unfolding tail
erased_end erase size at volume d =
    ap (are_erased erase) (up_drop at volume ∙ ap (drop (align_up 8 at - at)) d ∙ drop-replicate (align_up 8 at - at) (size - at) (free_byte erase))
    ∙ erased_all erase (size - at - (align_up 8 at - at))

one_more : (n : ℕ) (ffs3 : Bool) (erase : ℕ) (volume : List ℕ) (at : ℕ) → are_erased erase (drop at volume) ≡ false → is_file ffs3 erase (drop at volume) ≡ true
    → held_from (suc n) ffs3 erase volume at ≡ with_files (listed_file ffs3 at (drop at volume) ∷ []) (held_from n ffs3 erase volume (align_up 8 (at + stated_size (drop at volume))))
unfolding held_from
one_more n ffs3 erase volume at e f = rw (e, f) refl

end_here : (n : ℕ) (ffs3 : Bool) (erase : ℕ) (volume : List ℕ) (at : ℕ) → are_erased erase (drop at volume) ≡ true
    → held_from (suc n) ffs3 erase volume at ≡ Ok (record { files = []; free = length volume - at })
unfolding held_from
end_here n ffs3 erase volume at e = rw e refl

-- what is held from an end on
pub walk : (ffs3 : Bool) (erase size last : ℕ) (volume : List ℕ) (at : ℕ) (ps : List Piece) (rs : List Listed) (n : ℕ) → length volume ≡ size
    → drop at volume ≡ tail (free_byte erase) size at ps → Chain ffs3 erase size last at ps rs → size < n + at → 0 < n
    → held_from n ffs3 erase volume (align_up 8 at) ≡ Ok (record { files = rs; free = size - align_up 8 last })
unfolding Chain
walk ffs3 erase size last volume at [] [] zero l d c h k = absurd (omega arith)
walk ffs3 erase size last volume at [] [] (suc n) l d c h k =
    end_here n ffs3 erase volume (align_up 8 at) (erased_end erase size at volume d)
    ∙ ap (λ z. Ok (record { files = []; free = z - align_up 8 at })) l ∙ ap (λ z. Ok (record { files = []; free = size - align_up 8 z })) c.0
walk ffs3 erase size last volume at [] (r ∷ rs) n l d c h k = absurd c
walk ffs3 erase size last volume at (p ∷ ps) [] n l d c h k = absurd c
walk ffs3 erase size last volume at (p ∷ ps) (r ∷ rs) zero l d c h k = absurd (omega arith)
walk ffs3 erase size last volume at (p ∷ ps) (r ∷ rs) (suc n) l d c h k =
    let t : List ℕ = tail (free_byte erase) size (piece_end p) ps in
    let start : p.start ≡ align_up 8 at = c.0 in
    let row : IsRow ffs3 erase p.start p.bytes r = c.1 in
    let here : drop (align_up 8 at) volume ≡ p.bytes ++ t = at_piece (free_byte erase) size at volume p ps d start in
    let er : are_erased erase (drop (align_up 8 at) volume) ≡ false = ap (are_erased erase) here ∙ row.used t in
    let fi : is_file ffs3 erase (drop (align_up 8 at) volume) ≡ true = ap (is_file ffs3 erase) here ∙ row.file t in
    let sz : stated_size (drop (align_up 8 at) volume) ≡ length p.bytes = ap stated_size here ∙ row.size t in
    let li : listed_file ffs3 (align_up 8 at) (drop (align_up 8 at) volume) ≡ r =
    ap (listed_file ffs3 (align_up 8 at)) here ∙ ap (λ z. listed_file ffs3 z (p.bytes ++ t)) (sym start) ∙ row.listed t in
    let nx : align_up 8 at + stated_size (drop (align_up 8 at) volume) ≡ piece_end p = omega arith in
    let u : at ≤ align_up 8 at = up_after 8 at (omega arith) in
    let w : piece_end p ≤ size = chain_within ffs3 erase size last (piece_end p) ps rs c.2 in
    let long : 24 ≤ length p.bytes = row.some in
    let ih : held_from n ffs3 erase volume (align_up 8 (piece_end p)) ≡ Ok (record { files = rs; free = size - align_up 8 last }) =
    walk ffs3 erase size last volume (piece_end p) ps rs n l (after_piece (free_byte erase) size at volume p ps here start) c.2 (omega arith) (omega arith) in
    one_more n ffs3 erase volume (align_up 8 at) er fi
    ∙ ap (λ x. with_files (x ∷ []) (held_from n ffs3 erase volume (align_up 8 (align_up 8 at + stated_size (drop (align_up 8 at) volume))))) li
    ∙ ap (λ z. with_files (r ∷ []) (held_from n ffs3 erase volume (align_up 8 z))) nx ∙ ap (with_files (r ∷ [])) ih
