use Rattle.std.proofs.Common.{◌≡◌, ◌∙◌, sym, ap, refl, length, false, true}
use Rattle.image_rebase.specs.Blocks.{block_size, is_wrong_size, is_end}
use Rattle.image_rebase.proofs.BlockLemmas.{blocks_turn, blocks_end, blocks_wrong}
use Rattle.image_rebase.proofs.blocks.blocks_of.Goals as goal

pub returns-then-is_wrong_size : goal.returns-then-is_wrong_size
returns-then-is_wrong_size c =
    let left = c.loop-left.left.now in
    let i = c.loop-left.invariant in
    let e : is_end left ≡ false = sym c.is_end.ensures.value ∙ c.loop-left-test.true in
    let w : is_wrong_size (block_size left) (length left) ≡ true =
    ap (λ z. is_wrong_size z (length left)) (sym c.block_size-size.ensures) ∙ sym c.is_wrong_size.ensures.value ∙ c.if-is_wrong_size.true in
    rw c.in_ok-fault_with_size.ensures
    (blocks_wrong c.args.place.now c.args.directory.now c.loop-left.blocks c.loop-left.at left (record { count = i.count; whole = i.whole; so = i.so }) e w)

pub loop-left-preserved : goal.loop-left-preserved
loop-left-preserved c =
    let left = c.loop-left.left.now in
    let i = c.loop-left.invariant in
    let e : is_end left ≡ false = sym c.is_end.ensures.value ∙ c.loop-left-test.true in
    let t =
    blocks_turn c.args.place.now c.args.directory.now c.loop-left.blocks c.push.new.self c.loop-left.at left c.rest-left.result.now c.block_size-size.result
    (record { count = i.count; whole = i.whole; so = i.so }) c.block_size-size.ensures (c.is_wrong_size.ensures.least c.if-is_wrong_size.false) (c.is_wrong_size.ensures.inside c.if-is_wrong_size.false) e
    (sym c.is_wrong_size.ensures.value ∙ c.if-is_wrong_size.false) (c.in_ok-push.ensures.ok ∙ rw c.block_at.ensures refl) c.rest-left.ensures in
    record { count = t.count; whole = t.whole; so = t.so }

pub returns : goal.returns
returns c =
    let i = c.loop-left.invariant in
    let e : is_end c.loop-left.left.now ≡ true = sym c.is_end.ensures.value ∙ c.loop-left-test.false in
    blocks_end c.args.place.now c.args.directory.now c.loop-left.blocks c.loop-left.at c.loop-left.left.now (record { count = i.count; whole = i.whole; so = i.so }) e
