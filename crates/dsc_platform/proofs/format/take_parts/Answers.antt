use Rattle.std.proofs.Common.{◌≡◌, ◌∙◌, true, false, [], sym, ap, subst, ◌++◌, ◌∷◌}
use Rattle.dsc_platform.specs.Cutting.{begins, built, BlocksHeld}
use Rattle.dsc_platform.proofs.BlockLemmas.{block_begun, block_taken}
use Rattle.dsc_platform.proofs.format.take_parts.Goals as goal

pub returns-then-begins : goal.returns-then-begins
returns-then-begins c = λ lines h.
    let done = c.args.done.now in
    let first = c.args.first.now.items in
    let rest = c.args.rest.now.items in
    let parts = c.args.parts.items in
    let told : begins parts ≡ true = ap begins (sym c.as_slice.ensures.value) ∙ sym c.begins.ensures ∙ c.if-begins.true in
    let made : c.push_block.new.components ≡ done ++ built first rest =
    c.in_ok-push_block.ensures ∙ ap (λ f. done ++ built f c.as_slice-then-begins-2.result.now) c.as_slice-then-begins.ensures.value ∙ ap (λ r. done ++ built first r) c.as_slice-then-begins-2.ensures.value in
    subst (λ r. BlocksHeld (lines ++ parts ∷ []) c.push_block.new.components parts r) (sym c.new.ensures.items)
    (block_begun lines done c.push_block.new.components first rest parts h told made)

pub returns : goal.returns
returns c = λ lines h.
    let parts = c.args.parts.items in
    let told : begins parts ≡ false = ap begins (sym c.as_slice.ensures.value) ∙ sym c.begins.ensures ∙ c.if-begins.false in
    block_taken lines c.args.done.now c.args.first.now.items c.args.rest.now.items c.push_parts.new.parts.items parts h told c.in_ok-push_parts.ensures
