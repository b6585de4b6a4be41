use Rattle.std.proofs.Common.{arith, ◌≡◌, ◌+◌, ◌-◌, ◌<◌, ℕ, length, take, drop, map, length-drop, ap, sym, ◌∙◌, refl}
use Rattle.std.proofs.lemmas.List.{append-nil}
use Rattle.meta_lexer.specs.Lines.{lines_of}
use Rattle.meta_lexer.proofs.PieceLemmas.{whole_at, pieces_end}
use Rattle.build_base.proofs.FirstLemmas.{front_none}
use Rattle.meta_lexer.specs.Lines.{piece_of, without_return}
use Rattle.macro_conditions.specs.Work.{text_line}
use Rattle.macro_conditions.proofs.PlaceLemmas.{one_more, one_bad, cut_behind, rest_at}
use Rattle.macro_conditions.proofs.places.places.Goals as goal

pub loop-rest-init : goal.loop-rest-init
unfolding lines_of
loop-rest-init c = record {
  whole = rw (c.new-found.ensures.items, whole_at c.args.bytes.now) (front_none _);
  shorter = omega arith;
  at = let none : 0 ≡ length c.args.bytes.now - length c.args.bytes.now = omega arith in ap (λ k. drop k c.args.bytes.now) none;
  few = omega arith;
}

pub returns : goal.returns
returns c =
    let done = pieces_end c.loop-rest.rest.now c.loop-rest.number (length c.args.bytes.now - length c.loop-rest.rest.now) (c.is_end.ensures.0 c.loop-rest-test.false) in
    sym c.loop-rest.invariant.whole ∙ rw (done, append-nil) refl

pub loop-rest-preserved : goal.loop-rest-preserved
loop-rest-preserved c =
    let bytes = c.args.bytes.now in
    let rest = c.loop-rest.rest.now in
    let piece = c.split_line.result.0.now in
    let at : ℕ = length bytes - length rest in
    let after = drop (length piece + 1) rest in
    let some : 0 < length (without_return rest) = grind arith in
    let cut = cut_behind rest piece c.loop-rest.number at _ some (c.split_line.ensures.pieces c.loop-rest.number at) in
    let there : piece ≡ take (length piece) (drop at bytes) = cut.0 ∙ ap (take (length piece)) c.loop-rest.invariant.at in
    let on : at + (length rest - length after) ≡ length bytes - length after = omega (arith, length-drop (length piece + 1) rest, c.loop-rest.invariant.shorter) in
    rw c.behind-rest.ensures (record {
      whole = one_more (text_line bytes) c.loop-rest.found.items c.push.new.self.items c.in-Ok.place (piece_of c.loop-rest.number at piece) c.loop-rest.number (at + (length rest - length after)) (length bytes - length after) rest after
          on c.in_ok-push-in-Ok.ensures.items cut.1 (c.in-Ok.ensures bytes there)
          ∙ c.loop-rest.invariant.whole;
      shorter = omega (arith, length-drop (length piece + 1) rest, c.loop-rest.invariant.shorter);
      at = rest_at bytes rest (length piece + 1) c.loop-rest.invariant.at c.loop-rest.invariant.shorter;
      few = omega (arith, length-drop (length piece + 1) rest, c.split_line.ensures.shorter, c.loop-rest.invariant.few);
    })

pub returns-in-Err : goal.returns-in-Err
returns-in-Err c =
    let bytes = c.args.bytes.now in
    let rest = c.loop-rest.rest.now in
    let piece = c.split_line.result.0.now in
    let at : ℕ = length bytes - length rest in
    let after = drop (length piece + 1) rest in
    let some : 0 < length (without_return rest) = grind arith in
    let cut = cut_behind rest piece c.loop-rest.number at _ some (c.split_line.ensures.pieces c.loop-rest.number at) in
    let there : piece ≡ take (length piece) (drop at bytes) = cut.0 ∙ ap (take (length piece)) c.loop-rest.invariant.at in
    one_bad c.in-Err.refusal (map (text_line bytes) c.loop-rest.found.items) (piece_of c.loop-rest.number at piece) c.loop-rest.number _ rest after (lines_of bytes) c.loop-rest.invariant.whole cut.1 (c.in-Err.ensures bytes there)
