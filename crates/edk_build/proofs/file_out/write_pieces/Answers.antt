use Rattle.std.proofs.Common.{◌≡◌, ◌<◌, ℕ, List, [], sym, ap, ◌∙◌, ◌++◌, length, length-append, append_assoc, arith}
use Rattle.build_base.proofs.SpellingLemmas.{SpelledFile-start, SpelledFile-more, first_cut, later_cut}
use Rattle.edk_build.proofs.file_out.write_pieces.Goals as goal

some_behind : (front piece : List ℕ) → 0 < length piece → front ++ piece ≡ [] → ⊥
some_behind front piece l e = let a : length (front ++ piece) ≡ 0 = ap length e in let b = length-append front piece in absurd (omega arith)

-- where some bytes are left, some were written
still_some : (front left piece rest : List ℕ) → (front ≡ [] → left ≡ []) → left ≡ piece ++ rest → 0 < length piece → front ≡ [] → ⊥
still_some front left piece rest none is l e = let a : length (piece ++ rest) ≡ 0 = ap length (sym is ∙ none e) in let b = length-append piece rest in absurd (omega arith)

pub returns-in-Err-clause-written : goal.returns-in-Err-clause-written
returns-in-Err-clause-written g c = λ path s m.
    first_cut _ _ path c.args.content.now c.first_piece-first.result.now c.first_piece-first.new.pieces (sym c.pieces-pieces.ensures ∙ c.first_piece-first.ensures.whole) c.first_piece-first.ensures.short
    (rw s at c.in-Err.ensures.written)

pub returns-in-Err-emit-clause-written : goal.returns-in-Err-emit-clause-written
returns-in-Err-emit-clause-written g c = λ path s m.
    let i = c.loop-piece.invariant in
    let p = c.in-Some.ensures.steps in
    later_cut _ _ _ path c.args.content.now i.0 c.in-Some.piece.now c.next.new.self (i.1 ∙ ap (λ z. i.0 ++ z) p.0) (i.2 path s m) p.2 (rw m at c.in-Err-emit.ensures.written)

pub loop-piece-preserved : goal.loop-piece-preserved
loop-piece-preserved g c =
    let i = c.loop-piece.invariant in
    let p = c.in-Some.ensures.steps in (
      i.0 ++ c.in-Some.piece.now,
      i.1 ∙ ap (λ z. i.0 ++ z) p.0 ∙ sym (append_assoc i.0 c.in-Some.piece.now c.next.new.self),
      λ path s m. SpelledFile-more _ _ _ path i.0 c.in-Some.piece.now (i.2 path s m) (still_some i.0 _ c.in-Some.piece.now c.next.new.self i.4 p.0 p.1) p.1 p.2 (rw m at c.in_default-emit.ensures.written),
      c.in_default-emit.ensures.cause ∙ i.3,
      λ e. absurd (some_behind i.0 c.in-Some.piece.now p.1 e),
    )

pub loop-piece-init : goal.loop-piece-init
loop-piece-init g c = (
  c.first_piece-first.result.now,
  sym c.pieces-pieces.ensures ∙ c.first_piece-first.ensures.whole,
  λ path s m. SpelledFile-start _ _ path c.first_piece-first.result.now c.first_piece-first.ensures.short (rw s at c.in_default.ensures.written),
  c.in_default.ensures.cause,
  c.first_piece-first.ensures.empty,
)
