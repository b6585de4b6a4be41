-- Notes stand still while bytes are added behind them.
use Rattle.std.proofs.Common.{◌≡◌, ◌↔◌, refl, sym, ap, ◌∙◌, subst, ℕ, ◌+◌, ◌≤◌, ◌<◌, zero, suc, get_or, slice_get, Option, Some, None, IsSome, is_some, if◌then◌else◌, List, [], ◌∷◌, ◌++◌, length, take, drop, append_assoc, arith, length-append}
use Rattle.std.proofs.Math.Seq.{take-append_seam, drop-append_seam}
use Rattle.std.proofs.lemmas.Grind.{common_steps}
use Rattle.std.proofs.lemmas.List.Sums.{sum_by-cons}
use Rattle.build_base.specs.declared.memory_sink.Kind.{Kind}
use Rattle.build_base.specs.declared.memory_sink.Note.{Note}
use Rattle.build_base.specs.MemorySink.{target_of, seen, all_seen, IsKept}
use Rattle.build_base.specs.Outside.{Emission}
use Rattle.build_base.specs.SinkState.{AllTakeRoom, HasRoomForAll, SinkState, TakesRoom, size_of}

take-drop-more : (n k : ℕ) (xs ys : List ℕ) → k + n ≤ length xs → take n (drop k (xs ++ ys)) ≡ take n (drop k xs)
take-drop-more n k xs ys h = grind (arith, common_steps)

seen-more : (bytes more : List ℕ) (note : Note) → note.start + note.path + note.bytes ≤ length bytes → seen (bytes ++ more) note ≡ seen bytes note
seen-more bytes more note h =
    let p : take note.path (drop note.start (bytes ++ more)) ≡ take note.path (drop note.start bytes) = take-drop-more note.path note.start bytes more (omega arith) in
    let q : take note.bytes (drop (note.start + note.path) (bytes ++ more)) ≡ take note.bytes (drop (note.start + note.path) bytes) = take-drop-more note.bytes (note.start + note.path) bytes more (omega arith) in
    λ i. (target_of note.kind (p i), q i)

all_seen-more : (bytes more : List ℕ) (notes : List Note) → IsKept bytes notes → all_seen (bytes ++ more) notes ≡ all_seen bytes notes
all_seen-more bytes more [] k = refl
all_seen-more bytes more (note ∷ notes) k = λ i. seen-more bytes more note k.0 i ∷ all_seen-more bytes more notes k.1 i

all_seen-append : (bytes : List ℕ) (xs ys : List Note) → all_seen bytes (xs ++ ys) ≡ all_seen bytes xs ++ all_seen bytes ys
all_seen-append bytes [] ys = refl
all_seen-append bytes (x ∷ xs) ys = ap (λ z. seen bytes x ∷ z) (all_seen-append bytes xs ys)

pub kept_still : (bytes more : List ℕ) (notes : List Note) → IsKept bytes notes → IsKept (bytes ++ more) notes
kept_still bytes more [] k = tt
kept_still bytes more (note ∷ notes) k = (omega (arith, length-append bytes more, k.0), kept_still bytes more notes k.1)

seen_new : (kind : Kind) (old path bytes : List ℕ) → seen ((old ++ path) ++ bytes) (record { kind = kind; start = length old; path = length path; bytes = length bytes }) ≡ (target_of kind path, bytes)
seen_new kind old path bytes =
    let p : take (length path) (drop (length old) ((old ++ path) ++ bytes)) ≡ path = rw (append_assoc old path bytes, drop-append_seam old (path ++ bytes)) (take-append_seam path bytes) in
    let q : take (length bytes) (drop (length old + length path) ((old ++ path) ++ bytes)) ≡ bytes = grind (arith, common_steps) in
    λ i. (target_of kind (p i), q i)

-- one more emission, at the end
pub kept_one : (kind : Kind) (old path bytes : List ℕ) (notes : List Note) → IsKept old notes
    → all_seen ((old ++ path) ++ bytes) (notes ++ record { kind = kind; start = length old; path = length path; bytes = length bytes } ∷ []) ≡ all_seen old notes ++ (target_of kind path, bytes) ∷ []
kept_one kind old path bytes notes k =
    let note : Note = record { kind = kind; start = length old; path = length path; bytes = length bytes } in
    all_seen-append ((old ++ path) ++ bytes) notes (note ∷ [])
    ∙ ap (λ z. z ++ seen ((old ++ path) ++ bytes) note ∷ []) (ap (λ z. all_seen z notes) (append_assoc old path bytes) ∙ all_seen-more old (path ++ bytes) notes k)
    ∙ ap (λ z. all_seen old notes ++ z ∷ []) (seen_new kind old path bytes)

pub kept_one_still : (kind : Kind) (old path bytes : List ℕ) (notes : List Note) → IsKept old notes
    → IsKept ((old ++ path) ++ bytes) (notes ++ record { kind = kind; start = length old; path = length path; bytes = length bytes } ∷ [])
kept_one_still kind old path bytes [] k = (omega (arith, length-append (old ++ path) bytes, length-append old path), tt)
kept_one_still kind old path bytes (note ∷ notes) k =
    (omega (arith, k.0, length-append (old ++ path) bytes, length-append old path), kept_one_still kind old path bytes notes k.1)

pub all_seen_length : (bytes : List ℕ) (notes : List Note) → length (all_seen bytes notes) ≡ length notes
all_seen_length bytes [] = refl
all_seen_length bytes (note ∷ notes) = let l = all_seen_length bytes notes in omega (arith, l)

-- the emission of the note at a place
pub all_seen_at : (bytes : List ℕ) (notes : List Note) (k : ℕ) (d : Note) → k < length notes → slice_get (all_seen bytes notes) k ≡ Some (seen bytes (get_or notes k d))
all_seen_at bytes [] k d h = absurd (omega arith)
all_seen_at bytes (note ∷ notes) zero d h = refl
all_seen_at bytes (note ∷ notes) (suc k) d h = all_seen_at bytes notes k d (omega arith)

pub all_seen_past : (bytes : List ℕ) (notes : List Note) (k : ℕ) → length notes ≤ k → slice_get (all_seen bytes notes) k ≡ None
all_seen_past bytes [] k h = refl
all_seen_past bytes (note ∷ notes) zero h = absurd (omega arith)
all_seen_past bytes (note ∷ notes) (suc k) h = all_seen_past bytes notes k (omega arith)

pub kept_at : (bytes : List ℕ) (notes : List Note) (k : ℕ) (d : Note) → IsKept bytes notes → k < length notes
    → (get_or notes k d).start + (get_or notes k d).path + (get_or notes k d).bytes ≤ length bytes
kept_at bytes [] k d w h = absurd (omega arith)
kept_at bytes (note ∷ notes) zero d w h = w.0
kept_at bytes (note ∷ notes) (suc k) d w h = kept_at bytes notes k d w.1 (omega arith)

-- what is taken where the emission is told
taken_of : (written : Option (List Emission)) (old new size : ℕ) → IsSome written → old ≡ new + (if is_some written then size else 0) → old ≡ new + size
taken_of written old new size s e = e ∙ ap (λ b. new + (if b then size else 0)) s

pub told_while_room : (old new : SinkState) (emissions : List Emission) → AllTakeRoom old emissions new
    → IsSome new.written ↔ (IsSome old.written × HasRoomForAll old emissions)
told_while_room old new [] all =
    (λ s. (subst (λ z. IsSome z.written) all s, record { calls = omega arith; sizes = omega arith }), λ p. subst (λ z. IsSome z.written) (sym all) p.0)
told_while_room old new (e ∷ es) all =
    let next : SinkState = all.0 in
    let takes : TakesRoom old next e.0 e.1 = all.1 in
    let rest : IsSome new.written ↔ (IsSome next.written × HasRoomForAll next es) = told_while_room next new es all.2 in
    let sums = sum_by-cons (λ x. size_of x.0 x.1) e es in
    let calls : IsSome next.written → old.calls_left ≡ next.calls_left + 1 = λ s. taken_of next.written old.calls_left next.calls_left 1 s takes.calls_taken in
    let bytes : IsSome next.written → old.bytes_left ≡ next.bytes_left + size_of e.0 e.1 = λ s. taken_of next.written old.bytes_left next.bytes_left (size_of e.0 e.1) s takes.bytes_taken in (
      λ s.
          let told = rest.0 s in
          ((takes.told.0 told.0).0, record { calls = omega (arith, calls told.0, told.1.calls); sizes = omega (arith, sums, bytes told.0, told.1.sizes) }),
      λ p.
          let told : IsSome next.written = takes.told.1 (p.0, record { call = omega (arith, p.1.calls); size = omega (arith, sums, p.1.sizes) }) in
          rest.1 (told, record { calls = omega (arith, calls told, p.1.calls); sizes = omega (arith, sums, bytes told, p.1.sizes) }),
    )
