-- One turn of the reader.
use Rattle.std.proofs.Common.{◌≡◌, ℕ, ◌+◌, ◌<◌, ◌≤◌, List, [], ◌∷◌, length, take, drop, get_or, length-drop, sym, ap, ◌∙◌, arith}
use Rattle.std.proofs.lemmas.List.{drop_more, drop-drop, take-append-drop, length-take-le}
use Rattle.depex_code.specs.Tree.{Tree}
use Rattle.depex_code.specs.Postfix.{ready, taking, stuck, leaf, apply, run}
use Rattle.depex_code.proofs.PostfixReads.{run-leaf, run-taking, run-apply, run-stuck, taking-short}

pub guid_turn : (bytes : List ℕ) (at : ℕ) (ts : List Tree) → get_or bytes at 0 ≤ 2 → at + 17 ≤ length bytes → run (ready ts) (drop at bytes) ≡ run (ready (leaf (get_or bytes at 0) (take 16 (drop (at + 1) bytes)) ∷ ts)) (drop (at + 17) bytes)
guid_turn bytes at ts leafy room =
    let op = get_or bytes at 0 in
    let after = drop (at + 1) bytes in
    let sum : at + 1 + 16 ≡ at + 17 = omega arith in
    let long : length (take 16 (drop (at + 1) bytes)) ≡ 16 = length-take-le 16 (drop (at + 1) bytes) (omega (arith, length-drop (at + 1) bytes)) in
    ap (run (ready ts)) (drop_more bytes at 0 (omega arith) ∙ ap (λ l. get_or bytes at 0 ∷ l) (sym (take-append-drop 16 (drop (at + 1) bytes))))
    ∙ run-leaf (get_or bytes at 0) (take 16 (drop (at + 1) bytes)) (drop 16 (drop (at + 1) bytes)) ts leafy long
    ∙ ap (run (ready (leaf (get_or bytes at 0) (take 16 (drop (at + 1) bytes)) ∷ ts))) (drop-drop 16 (at + 1) bytes ∙ ap (λ n. drop n bytes) sum)

pub guid_short : (bytes : List ℕ) (at : ℕ) (ts : List Tree) → get_or bytes at 0 ≤ 2 → at < length bytes → length bytes < at + 17 → (us : List Tree) → run (ready ts) (drop at bytes) ≡ ready us → ⊥
guid_short bytes at ts leafy there short us e =
    let f : run (ready ts) (drop at bytes) ≡ taking (get_or bytes at 0) (drop (at + 1) bytes) ts =
    ap (run (ready ts)) (drop_more bytes at 0 there) ∙ run-taking (get_or bytes at 0) (drop (at + 1) bytes) ts leafy
    ∙ taking-short (get_or bytes at 0) [] (drop (at + 1) bytes) ts (omega (arith, length-drop (at + 1) bytes)) in
    absurd (cc)

pub op_turn : (bytes : List ℕ) (at : ℕ) (ts us : List Tree) → 2 < get_or bytes at 0 → at < length bytes → apply (get_or bytes at 0) ts ≡ ready us → run (ready ts) (drop at bytes) ≡ run (ready us) (drop (at + 1) bytes)
op_turn bytes at ts us other there e =
    ap (run (ready ts)) (drop_more bytes at 0 there) ∙ run-apply (get_or bytes at 0) (drop (at + 1) bytes) ts other ∙ ap (λ s. run s (drop (at + 1) bytes)) e

pub op_stuck : (bytes : List ℕ) (at : ℕ) (ts : List Tree) → 2 < get_or bytes at 0 → at < length bytes → apply (get_or bytes at 0) ts ≡ stuck → (us : List Tree) → run (ready ts) (drop at bytes) ≡ ready us → ⊥
op_stuck bytes at ts other there e us f =
    let g : run (ready ts) (drop at bytes) ≡ stuck =
    ap (run (ready ts)) (drop_more bytes at 0 there) ∙ run-apply (get_or bytes at 0) (drop (at + 1) bytes) ts other ∙ ap (λ s. run s (drop (at + 1) bytes)) e ∙ run-stuck (drop (at + 1) bytes) in
    absurd (cc)
