use Rattle.std.proofs.Common.{◌≡◌, ◌∙◌, ◌<◌, ◌+◌, ◌++◌, length, length-append, take, sym, ap, arith}
use Rattle.std.proofs.lemmas.Grind.{common_steps}
use Rattle.build_base.proofs.ImageLemmas.{step_same, step_differs, told_same, told_other, both_ways, moved}
use Rattle.build_base.proofs.same_image.same_pieces.Goals as goal

pub returns-then-ne : goal.returns-then-ne
returns-then-ne c =
    let a = c.split_at.ensures in
    let b = c.split_at-in-loop-left.ensures in
    let d = told_other c.ne.result c.split_at.result.0.now c.split_at-in-loop-left.result.0.now c.ne.ensures c.if-ne.true in
    let n = c.min-count.result in
    let l : length (take n c.piece_from-ours.result.now) ≡ length (take n c.piece_from-others.result.now) =
    omega (arith, ap length a.front, ap length b.front, a.front_len, b.front_len) in
    let k = step_differs n c.piece_from-ours.result.now c.piece_from-others.result.now c.piece_from-ours.new.pieces c.piece_from-others.new.pieces l (λ t. d (a.front ∙ t ∙ sym b.front)) in
    (λ f. absurd cc, λ e. let s : c.args.left ≡ c.args.right = ap (λ b. b.entry) e in absurd (k (c.piece_from-ours.ensures.whole ∙ c.loop-left.invariant.1 s ∙ sym c.piece_from-others.ensures.whole)))

pub loop-left-smaller : goal.loop-left-smaller
loop-left-smaller c =
    let w = ap length c.piece_from-ours.ensures.whole in
    let x = length-append c.piece_from-ours.result.now c.piece_from-ours.new.pieces in
    let y = length-append c.loop-left.ours.now c.loop-left.left in
    let z = c.split_at.ensures.back_len in
    let t : length c.split_at.result.1.now + length c.piece_from-ours.new.pieces < length c.loop-left.ours.now + length c.loop-left.left = grind (arith, common_steps) in
    t

pub loop-left-preserved : goal.loop-left-preserved
loop-left-preserved c =
    let a = c.split_at.ensures in
    let b = c.split_at-in-loop-left.ensures in
    let e = told_same c.ne.result c.split_at.result.0.now c.split_at-in-loop-left.result.0.now c.ne.ensures c.if-ne.false in
    let xs = c.piece_from-ours.result.now in
    let ys = c.piece_from-others.result.now in
    let ls = c.piece_from-ours.new.pieces in
    let rs = c.piece_from-others.new.pieces in
    let s = step_same c.min-count.result xs ys ls rs (sym a.front ∙ e ∙ b.front) in
    let m = moved (xs ++ ls) (c.loop-left.ours.now ++ c.loop-left.left) (ys ++ rs) (c.loop-left.others.now ++ c.loop-left.right) c.piece_from-ours.ensures.whole c.piece_from-others.ensures.whole in
    rw (a.back, b.back) (both_ways s (both_ways m c.loop-left.invariant))
