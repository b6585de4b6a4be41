use Rattle.std.proofs.Common.{◌≡◌, ◌++◌, map, drop}
use Rattle.meta_lexer.specs.Parts.{words_among}
use Rattle.meta_lexer.proofs.parts.words_among.Given as goal

abbrev pub invariant-loop-piece : goal.invariant-loop-piece
invariant-loop-piece l = l.words ++ words_among (map (λ piece. piece.now) (drop l.piece-index l.pieces)) ≡ words_among (map (λ piece. piece.now) l.pieces)
