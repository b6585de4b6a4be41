-- Volumes of an image, one after another.
use Rattle.std.proofs.Common.{◌≡◌, ℕ, ◌+◌, ◌-◌, ◌<◌, ◌≤◌, List, [], ◌∷◌, ◌++◌, length, Some, None, Ok, Err, refl, zero, suc, ap, sym, ◌∙◌, arith, append-nil, length-append}
use Rattle.build_base.specs.First.{and_then, with_front}
use Rattle.build_base.proofs.FirstLemmas.{front_front}
use Rattle.volume_reader.specs.declared.listing.FoundVolume.{FoundVolume}
use Rattle.volume_reader.specs.declared.listed.ReadRefusal.{ReadRefusal}
use Rattle.volume_reader.specs.declared.listed.ReadRefusal.TheVariants.{BadFile, WantOfMemory}
use Rattle.volume_reader.specs.Head.{volume_from}
use Rattle.volume_reader.specs.Volume.{Fails}
use Rattle.volume_reader.specs.Listing.{found_at, volumes_from}

here : (n : ℕ) (bytes : List ℕ) (from at : ℕ) → Some at ≡ volume_from bytes from
    → volumes_from (suc n) bytes from ≡ and_then (found_at bytes at) (λ found. with_front (found ∷ []) (volumes_from n bytes (at + found.list.length)))
unfolding volumes_from
here n bytes from at e = rw (sym e) refl

nowhere : (n : ℕ) (bytes : List ℕ) (from : ℕ) → None ≡ volume_from bytes from → volumes_from n bytes from ≡ Ok []
unfolding volumes_from
nowhere zero bytes from e = refl
nowhere (suc n) bytes from e = rw (sym e) refl

-- a turn: the volumes so far, and those that are left
abbrev pub SoFar : List ℕ → List FoundVolume → ℕ → Type 0
SoFar bytes volumes from = volumes_from (length bytes + 1) bytes 0 ≡ with_front volumes (volumes_from (length bytes + 1 - length volumes) bytes from)

turn : (bytes : List ℕ) (volumes : List FoundVolume) (from at : ℕ) → length volumes ≤ length bytes → Some at ≡ volume_from bytes from → SoFar bytes volumes from
    → volumes_from (length bytes + 1) bytes 0 ≡ with_front volumes (and_then (found_at bytes at) (λ found. with_front (found ∷ []) (volumes_from (length bytes - length volumes) bytes (at + found.list.length))))
turn bytes volumes from at room e so =
    let n : length bytes + 1 - length volumes ≡ suc (length bytes - length volumes) = omega arith in
    so ∙ ap (λ k. with_front volumes (volumes_from k bytes from)) n ∙ ap (with_front volumes) (here (length bytes - length volumes) bytes from at e)

pub found_more : (bytes : List ℕ) (volumes : List FoundVolume) (from at : ℕ) (found : FoundVolume) → length volumes ≤ length bytes → Some at ≡ volume_from bytes from → found_at bytes at ≡ Ok found
    → SoFar bytes volumes from → SoFar bytes (volumes ++ found ∷ []) (at + found.list.length)
found_more bytes volumes from at found room e f so =
    let l : length (volumes ++ found ∷ []) ≡ length volumes + 1 = length-append volumes (found ∷ []) in
    let m : length bytes + 1 - length (volumes ++ found ∷ []) ≡ length bytes - length volumes = omega arith in
    turn bytes volumes from at room e so
    ∙ ap (λ r. with_front volumes (and_then r (λ found. with_front (found ∷ []) (volumes_from (length bytes - length volumes) bytes (at + found.list.length))))) f
    ∙ front_front volumes (found ∷ []) (volumes_from (length bytes - length volumes) bytes (at + found.list.length))
    ∙ ap (λ k. with_front (volumes ++ found ∷ []) (volumes_from k bytes (at + found.list.length))) (sym m)

pub found_wrong : (bytes : List ℕ) (volumes : List FoundVolume) (from at place : ℕ) → length volumes ≤ length bytes → Some at ≡ volume_from bytes from → found_at bytes at ≡ Err place
    → SoFar bytes volumes from → volumes_from (length bytes + 1) bytes 0 ≡ Err place
found_wrong bytes volumes from at place room e f so =
    turn bytes volumes from at room e so
    ∙ ap (λ r. with_front volumes (and_then r (λ found. with_front (found ∷ []) (volumes_from (length bytes - length volumes) bytes (at + found.list.length))))) f

pub found_end : (bytes : List ℕ) (volumes : List FoundVolume) (from : ℕ) → None ≡ volume_from bytes from → SoFar bytes volumes from → volumes_from (length bytes + 1) bytes 0 ≡ Ok volumes
found_end bytes volumes from e so =
    so ∙ ap (with_front volumes) (nowhere (length bytes + 1 - length volumes) bytes from e) ∙ ap (λ z. Ok z) (append-nil volumes)

pub found_fails : (bytes : List ℕ) (volumes : List FoundVolume) (from at : ℕ) (e : ReadRefusal) → length volumes ≤ length bytes → Some at ≡ volume_from bytes from → Fails e (found_at bytes at) → SoFar bytes volumes from
    → Fails e (volumes_from (length bytes + 1) bytes 0)
found_fails bytes volumes from at (BadFile place) room e f so = found_wrong bytes volumes from at place room e f so
found_fails bytes volumes from at WantOfMemory room e f so = tt

-- a turn by the values that the code has
pub record Turned (bytes : List ℕ) (volumes : List FoundVolume) (from : ℕ) : Type 0 where
  pub count : length volumes ≤ from
  pub room : length volumes ≤ length bytes
  pub whole : SoFar bytes volumes from

pub found_turn : (bytes : List ℕ) (volumes new : List FoundVolume) (from at : ℕ) (found : FoundVolume) → Some at ≡ volume_from bytes from → found_at bytes at ≡ Ok found → new ≡ volumes ++ found ∷ []
    → from ≤ at → at < length bytes → 0 < found.list.length → length volumes ≤ from → SoFar bytes volumes from → Turned bytes new (at + found.list.length)
found_turn bytes volumes new from at found e f nw a b some count so =
    let l : length new ≡ length volumes + 1 = ap length nw ∙ length-append volumes (found ∷ []) in
    let w = found_more bytes volumes from at found (omega arith) e f so in
    record {
      count = omega arith;
      room = omega arith;
      whole = rw nw w;
    }
