use Rattle.std.proofs.Common.{◌≡◌, ◌≤◌, ◌+◌, ◌-◌, ◌∷◌, List, length, take, drop, get_or, sym, ap, ◌∙◌, arith}
use Rattle.depex_code.specs.Tree.{Tree}
use Rattle.depex_code.specs.Postfix.{trees, leaf, total, run, ready}
use Rattle.depex_code.proofs.PostfixTurns.{guid_turn, guid_short}
use Rattle.depex_code.proofs.PostfixSound.{leaf-costs}
use Rattle.depex_code.proofs.postfix.take_guid.Goals as goal

pub returns : goal.returns
returns c =
    let bytes = c.args.bytes.now in
    let at = c.args.at in
    let room : c.args.at + 17 ≤ length c.args.bytes.now = omega arith in
    let n : c.args.at + 17 - (c.args.at + 1) ≡ 16 = omega arith in
    let guid : c.guid_at-guid.result.0 ≡ take 16 (drop (c.args.at + 1) c.args.bytes.now) = c.guid_at-guid.ensures ∙ ap (λ m. take m (drop (c.args.at + 1) c.args.bytes.now)) n in
    let new : trees c.put_leaf.new.stack.items ≡ leaf (get_or c.args.bytes.now c.args.at 0) (take 16 (drop (c.args.at + 1) c.args.bytes.now)) ∷ trees c.args.stack.now.items =
    c.in_ok-put_leaf.ensures ∙ ap (λ g. leaf (get_or c.args.bytes.now c.args.at 0) g ∷ trees c.args.stack.now.items) guid in (
      guid_turn bytes at (trees c.args.stack.now.items) c.requires.is_leaf room ∙ ap (λ (ts : List Tree). run (ready ts) (drop (c.args.at + 17) c.args.bytes.now)) (sym new),
      omega arith,
      room,
      ap total new ∙ omega (arith, leaf-costs (get_or c.args.bytes.now c.args.at 0) (take 16 (drop (c.args.at + 1) c.args.bytes.now))),
    )

pub returns-then-bytes-at-lt17 : goal.returns-then-bytes-at-lt17
returns-then-bytes-at-lt17 c = guid_short c.args.bytes.now c.args.at (trees c.args.stack.now.items) c.requires.is_leaf c.requires.within (omega arith)
