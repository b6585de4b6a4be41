-- Files of a volume, one after another.
use Rattle.std.proofs.Common.{◌≡◌, ℕ, ◌+◌, ◌-◌, ◌<◌, ◌≤◌, Bool, true, false, List, [], ◌∷◌, ◌++◌, length, drop, Result, Ok, Err, refl, suc, ap, sym, ◌∙◌, arith, append_assoc, append-nil, length-append, nat_le}
use Rattle.std.proofs.lemmas.Bool.Decides.{nat_tests}
use Rattle.fv_compose.specs.Place.{align_up}
use Rattle.volume_reader.specs.declared.listed.Listed.{Listed}
use Rattle.volume_reader.specs.declared.volume.Held.{Held}
use Rattle.volume_reader.specs.Files.{is_file, stated_size, listed_file}
use Rattle.volume_reader.specs.Volume.{with_files, are_erased, held_from}

abbrev file_here : Bool → List ℕ → ℕ → Listed
file_here ffs3 volume at = listed_file ffs3 at (drop at volume)

abbrev next_place : List ℕ → ℕ → ℕ
next_place volume at = align_up 8 (at + stated_size (drop at volume))

front_one : (files : List Listed) (x : Listed) (r : Result Held ℕ) → with_files files (with_files (x ∷ []) r) ≡ with_files (files ++ x ∷ []) r
front_one files x (Ok held) = ap (λ z. Ok (record { files = z; free = held.free })) (sym (append_assoc files (x ∷ []) held.files))
front_one files x (Err place) = refl

one_more : (n : ℕ) (ffs3 : Bool) (erase : ℕ) (volume : List ℕ) (at : ℕ) → are_erased erase (drop at volume) ≡ false → is_file ffs3 erase (drop at volume) ≡ true
    → held_from (suc n) ffs3 erase volume at ≡ with_files (file_here ffs3 volume at ∷ []) (held_from n ffs3 erase volume (next_place volume at))
unfolding held_from
one_more n ffs3 erase volume at e f = rw (e, f) refl

wrong_here : (n : ℕ) (ffs3 : Bool) (erase : ℕ) (volume : List ℕ) (at : ℕ) → are_erased erase (drop at volume) ≡ false → is_file ffs3 erase (drop at volume) ≡ false
    → held_from (suc n) ffs3 erase volume at ≡ Err at
unfolding held_from
wrong_here n ffs3 erase volume at e f = rw (e, f) refl

end_here : (n : ℕ) (ffs3 : Bool) (erase : ℕ) (volume : List ℕ) (at : ℕ) → are_erased erase (drop at volume) ≡ true
    → held_from (suc n) ffs3 erase volume at ≡ Ok (record { files = []; free = length volume - at })
unfolding held_from
end_here n ffs3 erase volume at e = rw e refl

-- a turn: the files so far, and what is left
abbrev pub SoFar : Bool → ℕ → List ℕ → ℕ → List Listed → ℕ → Type 0
SoFar ffs3 erase volume first files at =
    held_from (length volume + 1) ffs3 erase volume first ≡ with_files files (held_from (length volume + 1 - length files) ffs3 erase volume at)

pub held_more : (ffs3 : Bool) (erase : ℕ) (volume : List ℕ) (first : ℕ) (files : List Listed) (at : ℕ) → length files ≤ length volume → are_erased erase (drop at volume) ≡ false
    → is_file ffs3 erase (drop at volume) ≡ true → SoFar ffs3 erase volume first files at → SoFar ffs3 erase volume first (files ++ file_here ffs3 volume at ∷ []) (next_place volume at)
held_more ffs3 erase volume first files at room e f so =
    let x : Listed = file_here ffs3 volume at in
    let n : length volume + 1 - length files ≡ suc (length volume - length files) = omega arith in
    let l : length (files ++ x ∷ []) ≡ length files + 1 = length-append files (x ∷ []) in
    let m : length volume + 1 - length (files ++ x ∷ []) ≡ length volume - length files = omega arith in
    so ∙ ap (λ k. with_files files (held_from k ffs3 erase volume at)) n
    ∙ ap (with_files files) (one_more (length volume - length files) ffs3 erase volume at e f)
    ∙ front_one files x (held_from (length volume - length files) ffs3 erase volume (next_place volume at))
    ∙ ap (λ k. with_files (files ++ x ∷ []) (held_from k ffs3 erase volume (next_place volume at))) (sym m)

-- the same by the values that the code has
pub record Turned (ffs3 : Bool) (erase : ℕ) (volume : List ℕ) (first : ℕ) (files : List Listed) (at : ℕ) : Type 0 where
  pub count : length files ≤ at
  pub room : length files ≤ length volume
  pub whole : SoFar ffs3 erase volume first files at

pub held_turn : (ffs3 : Bool) (erase : ℕ) (volume : List ℕ) (first : ℕ) (files new : List Listed) (at size next : ℕ) (bytes : List ℕ) (file : Listed)
    → bytes ≡ drop at volume → file ≡ listed_file ffs3 at bytes → size ≡ stated_size bytes → next ≡ align_up 8 (at + size) → new ≡ files ++ file ∷ [] → at + size ≤ next → 0 < size
    → length files ≤ at → at < length volume → are_erased erase (drop at volume) ≡ false → is_file ffs3 erase bytes ≡ true → SoFar ffs3 erase volume first files at
    → Turned ffs3 erase volume first new next
held_turn ffs3 erase volume first files new at size next bytes file by fe sz nx nw after some count lt er f so =
    let s : size ≡ stated_size (drop at volume) = sz ∙ ap stated_size by in
    let e : file ≡ file_here ffs3 volume at = fe ∙ ap (listed_file ffs3 at) by in
    let g : is_file ffs3 erase (drop at volume) ≡ true = ap (is_file ffs3 erase) (sym by) ∙ f in
    let l : length new ≡ length files + 1 = ap length nw ∙ length-append files (file ∷ []) in
    let w = held_more ffs3 erase volume first files at (omega arith) er g so in
    record {
      count = omega arith;
      room = omega arith;
      whole = rw (nw, e, nx, s) w;
    }

pub busy : (end at : ℕ) → at < end → nat_le end at ≡ false
busy end at h = grind (arith, nat_tests)

pub idle : (end at : ℕ) → end ≤ at → nat_le end at ≡ true
idle end at h = grind (arith, nat_tests)

pub held_wrong : (ffs3 : Bool) (erase : ℕ) (volume : List ℕ) (first : ℕ) (files : List Listed) (at : ℕ) → length files ≤ length volume → are_erased erase (drop at volume) ≡ false
    → is_file ffs3 erase (drop at volume) ≡ false → SoFar ffs3 erase volume first files at → held_from (length volume + 1) ffs3 erase volume first ≡ Err at
held_wrong ffs3 erase volume first files at room e f so =
    let n : length volume + 1 - length files ≡ suc (length volume - length files) = omega arith in
    so ∙ ap (λ k. with_files files (held_from k ffs3 erase volume at)) n ∙ ap (with_files files) (wrong_here (length volume - length files) ffs3 erase volume at e f)

pub held_end : (ffs3 : Bool) (erase : ℕ) (volume : List ℕ) (first : ℕ) (files : List Listed) (at : ℕ) → length files ≤ length volume → are_erased erase (drop at volume) ≡ true
    → SoFar ffs3 erase volume first files at → held_from (length volume + 1) ffs3 erase volume first ≡ Ok (record { files = files; free = length volume - at })
held_end ffs3 erase volume first files at room e so =
    let n : length volume + 1 - length files ≡ suc (length volume - length files) = omega arith in
    so ∙ ap (λ k. with_files files (held_from k ffs3 erase volume at)) n ∙ ap (with_files files) (end_here (length volume - length files) ffs3 erase volume at e)
    ∙ ap (λ z. Ok (record { files = z; free = length volume - at })) (append-nil files)
