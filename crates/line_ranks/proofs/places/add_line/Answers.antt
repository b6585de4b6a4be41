use Rattle.std.proofs.Common.{◌∙◌, ℕ, List, refl, sym, ap, arith}
use Rattle.std.specs.HashMap.{get}
use Rattle.line_ranks.specs.Lines.{rank}
use Rattle.line_ranks.specs.Places.{same_key, outweighs, picked_line}
use Rattle.line_ranks.proofs.PlaceLemmas.{lines_skipped, lines_beaten, lines_added}
use Rattle.line_ranks.proofs.places.add_line.Goals.{in-Ok, in-Err}
use Rattle.line_ranks.proofs.places.add_line.Goals as goal

pub returns-then-weight-eq0 : goal.returns-then-weight-eq0
returns-then-weight-eq0 c = λ held.
    lines_skipped c.args.user c.args.own c.args.lines.now c.args.place c.index-lines-place.result c.args.places.now c.requires c.index-lines-place.is
    (sym c.rank-weight.ensures ∙ c.if-weight-eq0.true) held

pub returns-then-outweighs : goal.returns-then-outweighs
returns-then-outweighs c = λ held.
    let told = ap (λ (r : ℕ). outweighs c.args.user c.args.own r (picked_line c.args.lines.now (get same_key c.args.places.now c.index-lines-place.result.class))) (sym c.rank-weight.ensures)
    ∙ ap (outweighs c.args.user c.args.own c.rank-weight.result) (sym c.picked_line.ensures) ∙ sym c.outweighs.ensures in
    lines_beaten c.args.user c.args.own c.args.lines.now c.args.place c.index-lines-place.result c.args.places.now c.index-lines-place.result.class c.requires c.index-lines-place.is
    refl (told ∙ c.if-outweighs.true) held

pub returns : goal.returns
returns c =
    let told = ap (λ (r : ℕ). outweighs c.args.user c.args.own r (picked_line c.args.lines.now (get same_key c.args.places.now c.index-lines-place.result.class))) (sym c.rank-weight.ensures)
    ∙ ap (outweighs c.args.user c.args.own c.rank-weight.result) (sym c.picked_line.ensures) ∙ sym c.outweighs.ensures in
    elim c.match-insert.branch [
      | in-Ok w ↦ λ held.
          rw w.result-is
          (lines_added c.args.user c.args.own c.args.lines.now c.args.place c.index-lines-place.result c.args.places.now c.insert.new.self c.in_ok-class.class c.requires c.index-lines-place.is
          c.in_ok-class.ensures (omega (arith, c.if-weight-eq0.false, c.rank-weight.ensures))
          (ap (λ (k : List ℕ). outweighs c.args.user c.args.own (rank c.args.user c.args.own c.index-lines-place.result) (picked_line c.args.lines.now (get same_key c.args.places.now k))) c.in_ok-class.ensures ∙ told ∙ c.if-outweighs.false)
          w.in-Ok.ensures.updates.0 held)
      | in-Err w ↦ λ held. rw w.result-is tt
    ]
