-- The files after an entry is put in the place of another, or behind all, and after those of a path are taken out.
use Rattle.std.proofs.Common.{◌≡◌, refl, sym, ap, ℕ, zero, suc, ◌<◌, ◌≤◌, List, [], ◌∷◌, ◌++◌, length, get_or, Bool, true, false, cond, Option, Some, None, nat_eq, not, arith}
use Rattle.std.proofs.Math.ListN.{set}
use Rattle.std.specs.List.{position, position_or_len, filter}
use Rattle.std.proofs.lemmas.List.Quantifiers.{position-Some}
use Rattle.std.proofs.lemmas.List.Sums.{fails_before_first}
use Rattle.std.proofs.lemmas.Bool.Decides.{nat_tests}
use Rattle.std.specs.Cmp.Lexicographic.{pointwise, same_text}
use Rattle.build_base.specs.declared.memory_tree.Held.{Held}
use Rattle.build_base.specs.MemoryTree.{file_at, with_file, without_file}

abbrev same : List ℕ → List ℕ → Bool
same xs ys = pointwise nat_eq xs ys

-- behind an entry of another path
behind : (entry : Held) (path bytes other : List ℕ) (old new : Option (List ℕ)) → same entry.path path ≡ false → new ≡ cond (same path other) (Some bytes) old
    → cond (same entry.path other) (Some entry.bytes) new ≡ cond (same path other) (Some bytes) (cond (same entry.path other) (Some entry.bytes) old)
behind entry path bytes other old new apart e =
    elim (same path other) as (λ b. same path other ≡ b → new ≡ cond b (Some bytes) old → cond (same entry.path other) (Some entry.bytes) new ≡ cond b (Some bytes) (cond (same entry.path other) (Some entry.bytes) old)) [
      | true ↦ λ t k.
          let here : path ≡ other = same_text _ _ (sym t) in
          let off : same entry.path other ≡ false = rw (← here) apart in
          rw off k
      | false ↦ λ t k. ap (λ z. cond (same entry.path other) (Some entry.bytes) z) k
    ] refl e

-- where the paths before aren't it
pub file_at-set : (entries : List Held) (i : ℕ) (path bytes other : List ℕ) (d : Held) → i < length entries → same (get_or entries i d).path path ≡ true
    → ((k : ℕ) → k < i → same (get_or entries k d).path path ≡ false)
    → file_at (set entries i (record { path = path; bytes = bytes })) other ≡ with_file (file_at entries) path bytes other
file_at-set [] i path bytes other d h e before = absurd (omega arith)
file_at-set (entry ∷ entries) zero path bytes other d h e before =
    let here : entry.path ≡ path = same_text _ _ (sym e) in
    elim (same path other) as (λ b. same path other ≡ b → cond b (Some bytes) (file_at entries other) ≡ cond b (Some bytes) (cond (same entry.path other) (Some entry.bytes) (file_at entries other))) [
      | true ↦ λ t. refl
      | false ↦ λ t. rw (here, t) refl
    ] refl
file_at-set (entry ∷ entries) (suc i) path bytes other d h e before =
    let rest : file_at (set entries i (record { path = path; bytes = bytes })) other ≡ with_file (file_at entries) path bytes other =
    file_at-set entries i path bytes other d (omega arith) e (λ k b. before (suc k) (omega arith)) in
    behind entry path bytes other (file_at entries other) _ (before 0 (omega arith)) rest

pub file_at-push : (entries : List Held) (path bytes other : List ℕ) (d : Held)
    → ((k : ℕ) → k < length entries → same (get_or entries k d).path path ≡ false)
    → file_at (entries ++ record { path = path; bytes = bytes } ∷ []) other ≡ with_file (file_at entries) path bytes other
file_at-push [] path bytes other d before = refl
file_at-push (entry ∷ entries) path bytes other d before =
    behind entry path bytes other (file_at entries other) _ (before 0 (omega arith)) (file_at-push entries path bytes other d (λ k b. before (suc k) (omega arith)))

none_passes : (p : Held → Bool) (entries : List Held) (d : Held) → position p entries ≡ None → (k : ℕ) → k < length entries → p (get_or entries k d) ≡ false
none_passes p entries d e k h =
    let past : length entries ≤ position_or_len p entries = grind (arith, nat_tests, e) in
    fails_before_first p entries k d (omega arith)

pub file_at-put : (entries : List Held) (i : ℕ) (path bytes : List ℕ) → position (λ entry. pointwise nat_eq entry.path path) entries ≡ Some i
    → file_at (set entries i (record { path = path; bytes = bytes })) ≡ with_file (file_at entries) path bytes
file_at-put entries i path bytes e =
    let d : Held = record { path = path; bytes = bytes } in
    let found = position-Some (λ entry. pointwise nat_eq entry.path path) entries i d e in
    λ z other. file_at-set entries i path bytes other d found.0 found.1 found.2 z

pub file_at-add : (entries : List Held) (path bytes : List ℕ) → position (λ entry. pointwise nat_eq entry.path path) entries ≡ None
    → file_at (entries ++ record { path = path; bytes = bytes } ∷ []) ≡ with_file (file_at entries) path bytes
file_at-add entries path bytes e =
    let d : Held = record { path = path; bytes = bytes } in
    λ z other. file_at-push entries path bytes other d (none_passes (λ entry. pointwise nat_eq entry.path path) entries d e) z

-- an entry of the path goes
gone_here : (entry : Held) (path other : List ℕ) (old new : Option (List ℕ)) → same entry.path path ≡ true → new ≡ cond (same path other) None old
    → new ≡ cond (same path other) None (cond (same entry.path other) (Some entry.bytes) old)
gone_here entry path other old new is e =
    let here : entry.path ≡ path = same_text _ _ (sym is) in
    elim (same path other) as (λ b. same path other ≡ b → new ≡ cond b None old → new ≡ cond b None (cond (same entry.path other) (Some entry.bytes) old)) [
      | true ↦ λ t k. k
      | false ↦ λ t k. rw (here, t) k
    ] refl e

-- an entry of another path stays
gone_behind : (entry : Held) (path other : List ℕ) (old new : Option (List ℕ)) → same entry.path path ≡ false → new ≡ cond (same path other) None old
    → cond (same entry.path other) (Some entry.bytes) new ≡ cond (same path other) None (cond (same entry.path other) (Some entry.bytes) old)
gone_behind entry path other old new apart e =
    elim (same path other) as (λ b. same path other ≡ b → new ≡ cond b None old → cond (same entry.path other) (Some entry.bytes) new ≡ cond b None (cond (same entry.path other) (Some entry.bytes) old)) [
      | true ↦ λ t k.
          let here : path ≡ other = same_text _ _ (sym t) in
          let off : same entry.path other ≡ false = rw (← here) apart in
          rw off k
      | false ↦ λ t k. ap (λ z. cond (same entry.path other) (Some entry.bytes) z) k
    ] refl e

without_at : (entries : List Held) (path other : List ℕ) → file_at (filter (λ entry. not (pointwise nat_eq entry.path path)) entries) other ≡ without_file (file_at entries) path other
without_at [] path other =
    let none : Option (List ℕ) = None in
    elim (same path other) as (λ b. none ≡ cond b none none) [ true ↦ refl | false ↦ refl ]
without_at (entry ∷ entries) path other =
    let kept : List Held = filter (λ e. not (pointwise nat_eq e.path path)) entries in
    let rest = without_at entries path other in
    elim (same entry.path path) as (λ b. same entry.path path ≡ b → file_at (cond (not b) (entry ∷ kept) kept) other ≡ cond (same path other) None (cond (same entry.path other) (Some entry.bytes) (file_at entries other))) [
      | true ↦ λ t. gone_here entry path other (file_at entries other) (file_at kept other) t rest
      | false ↦ λ t. gone_behind entry path other (file_at entries other) (file_at kept other) t rest
    ] refl

pub file_at-drop : (entries : List Held) (path : List ℕ) → file_at (filter (λ entry. not (pointwise nat_eq entry.path path)) entries) ≡ without_file (file_at entries) path
file_at-drop entries path = λ z other. without_at entries path other z
