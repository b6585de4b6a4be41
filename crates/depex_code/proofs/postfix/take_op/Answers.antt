use Rattle.std.proofs.Common.{◌≡◌, get_or, subst, arith}
use Rattle.depex_code.specs.Postfix.{trees, apply, ready, stuck, Applied}
use Rattle.depex_code.proofs.PostfixTurns.{op_turn, op_stuck}
use Rattle.depex_code.proofs.PostfixSound.{apply-costs}
use Rattle.depex_code.proofs.postfix.take_op.Goals as goal

pub returns : goal.returns
returns c =
    let op = get_or c.args.bytes.now c.args.at 0 in
    let old = trees c.args.stack.now.items in
    let new = trees c.apply.new.stack.items in
    let e : apply (get_or c.args.bytes.now c.args.at 0) (trees c.args.stack.now.items) ≡ ready (trees c.apply.new.stack.items) =
    subst (λ v. Applied (get_or c.args.bytes.now c.args.at 0) c.args.stack.now.items c.apply.new.stack.items v) c.if-not-goes.false c.in_ok-goes.ensures in
    (op_turn c.args.bytes.now c.args.at old new c.requires.no_leaf c.requires.within e, omega arith, omega (arith, c.requires.within), apply-costs op old new e)

pub returns-then-not-goes : goal.returns-then-not-goes
returns-then-not-goes c =
    let e : apply (get_or c.args.bytes.now c.args.at 0) (trees c.args.stack.now.items) ≡ stuck =
    subst (λ v. Applied (get_or c.args.bytes.now c.args.at 0) c.args.stack.now.items c.apply.new.stack.items v) c.if-not-goes.true c.in_ok-goes.ensures in
    op_stuck c.args.bytes.now c.args.at (trees c.args.stack.now.items) c.requires.no_leaf c.requires.within e
