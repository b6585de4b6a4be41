use Rattle.std.proofs.Common.{arith, ◌-◌, length, sym, ◌∙◌, refl}
use Rattle.std.proofs.lemmas.List.{append-nil}
use Rattle.meta_lexer.specs.Lines.{lines_of}
use Rattle.meta_lexer.proofs.PieceLemmas.{whole_at, pieces_end}
use Rattle.build_base.proofs.FirstLemmas.{front_none}
use Rattle.meta_lexer.proofs.line.lines.Goals as goal

pub loop-rest-init : goal.loop-rest-init
unfolding lines_of
loop-rest-init c = record {
  whole = rw (c.new-found.ensures.items, whole_at c.args.bytes.now) (front_none _);
  shorter = omega arith;
  few = omega arith;
}

pub returns : goal.returns
returns c =
    let done = pieces_end c.loop-rest.rest.now c.loop-rest.number (length c.args.bytes.now - length c.loop-rest.rest.now) (c.is_end.ensures.0 c.loop-rest-test.false) in
    sym c.loop-rest.invariant.whole ∙ rw (done, append-nil) refl
